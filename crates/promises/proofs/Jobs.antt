-- What an event with room enough asks: an edge of a known contact, a tick, and a packet that is read and judged.
use Rattle.std.specs.Prelude.{Ok, Result}
use mathlib.Core.List.{List}
use mathlib.Core.Path.{◌≡◌}
use Prim.Native.Nat.{ℕ, ◌≤◌, ◌<◌}
use borrow.Author.Tests.{le-ltb, lt-leb}
use lib.ListN.{drop}
use Rattle.packet.specs.Reading.{message_of, read_of}
use Rattle.packet.specs.declared.Header.{Header}
use Rattle.model.specs.Model.{room, contact_count}
use Rattle.judge.specs.Judge.{judged}
use Rattle.judge.specs.declared.Denied.{Denied}
use Rattle.judge.specs.declared.Order.{Order}
use Rattle.switch.specs.Switch.{Plain, event, press, receive, release, tick}
use Rattle.switch.specs.Events.{job_of_deed, job, known, job_of_order, job_of_press, job_of_frame, job_of_bytes, job_of_release, job_of_tick}

-- A packet that is read: what is judged of it is what is done.
pub receive_job : (p : Plain) (lent : ℕ) (bytes : List ℕ) (h : Header) (o : Result Order Denied) → room ≤ lent → read_of bytes ≡ Ok h
    → judged p.registers p.core.mode h (message_of bytes) ≡ o
    → job p (event lent (receive bytes)) ≡ job_of_order o h.source (drop 2 (message_of bytes)) p
unfolding job job_of_deed job_of_bytes job_of_frame
receive_job p lent bytes h o k read judge = rw (le-ltb lent room k, read, judge)

-- An edge of a contact that there is.
pub press_job : (p : Plain) (lent contact : ℕ) → room ≤ lent → contact < contact_count → job p (event lent (press contact)) ≡ job_of_press contact p
unfolding job job_of_deed known
press_job p lent contact h k = rw (le-ltb lent room h, lt-leb contact_count contact k)

pub release_job : (p : Plain) (lent contact : ℕ) → room ≤ lent → contact < contact_count → job p (event lent (release contact)) ≡ job_of_release contact p
unfolding job job_of_deed known
release_job p lent contact h k = rw (le-ltb lent room h, lt-leb contact_count contact k)

-- A tick.
pub tick_job : (p : Plain) (lent : ℕ) → room ≤ lent → job p (event lent tick) ≡ job_of_tick p
unfolding job job_of_deed
tick_job p lent h = rw (le-ltb lent room h)
