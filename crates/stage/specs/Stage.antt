-- The switch on the desk with its buffer, and what an event does to it (docs/SCRIPT.md).
use Prim.Native.Char.{code}
use Rattle.std.specs.Prelude.{ℕ, Bool, false, not, List, ◌++◌, ◌≡◌, length, take, drop, replicate, if◌then◌else◌}
use Rattle.model.specs.Model.{room}
use Rattle.outbox.specs.Outbox.{placed}
use Rattle.places.specs.Places.{size}
use Rattle.state.specs.State.{counter_count, number_count}
use Rattle.panel.specs.Panel.{byte_count}
use Rattle.switch.specs.Switch.{Arrays, arrays, switch_in, kept_in, Deed, press, release, tick, receive, restart, event}
use Rattle.switch.specs.Respond.{respond}
use Rattle.answers.specs.declared.Answer.{Answer}
use Rattle.stage.specs.declared.Event.{Event}
use Rattle.stage.specs.declared.Event.TheVariants as happens
use Rattle.stage.specs.declared.Desk.{Desk}
use Rattle.page.specs.Page.{Page, puts, none}
use Rattle.ledger.specs.Writing.{fill, answered}

-- All that a script plays with: whether there is a switch, what it is kept in, how many bytes of the buffer are lent to it, and the buffer.
pub record Scene : Type 0 where
  pub there : Bool
  pub arrays : Arrays
  pub room : ℕ
  pub buffer : List ℕ

abbrev pub scene : Bool → Arrays → ℕ → List ℕ → Scene
scene there arrays room buffer = record { there = there; arrays = arrays; room = room; buffer = buffer }

-- As the code holds it: the arrays and the buffer are lent, the rest goes by value.
abbrev pub scene_of : Desk → List ℕ → List ℕ → List ℕ → List ℕ → List ℕ → Scene
scene_of desk counters numbers paddles all buffer = scene desk.there (arrays counters numbers paddles all) desk.room buffer

-- What a line does: the scene after it, and the text that is written.
pub record Done : Type 0 where
  pub after : Scene
  pub text : List ℕ

abbrev pub done : Scene → List ℕ → Done
done after text = record { after = after; text = text }

-- The start of a script: no switch, and a buffer with just the room that an event asks for.
abbrev pub empty_desk : Desk
empty_desk = record { there = false; room = room }

-- The same with arrays of zeros, and a buffer of n bytes.
abbrev pub empty_table : ℕ → Scene
empty_table n = scene_of empty_desk (replicate counter_count 0) (replicate number_count 0) (replicate byte_count 0) (replicate size 0) (replicate n 0)

-- Before every event each lent byte is made the same.
abbrev pub filled : List ℕ → List ℕ
filled out = replicate (length out) fill

-- An event of the switch that is there: its answer is written as `say` has it, the switch after it is kept, and the bytes that are not lent stay.
unfoldable pub happened : (Answer → List ℕ → List ℕ) → Deed → Scene → Done
happened say deed s =
    let lent = filled (take s.room s.buffer) in
    let response = respond (switch_in s.arrays) (event (length lent) deed) in
    let bytes = placed response.shown.sent lent in
    done (scene s.there (kept_in s.arrays response.next) s.room (bytes ++ drop s.room s.buffer)) (say response.shown.answer bytes)

-- An event where there is no switch is not one: `none` is written.
unfoldable pub told : ℕ → Deed → Scene → Done
told letter deed s = if not s.there then done s (none letter) else happened (answered letter) deed s

-- What every line promises: whether there is a switch, every counter, number, paddle's byte and register, the buffer's every byte, and the page
-- are those of its meaning.
pub record Plays (meant : Done) (page : Page) (desk : Desk) (counters numbers paddles all buffer : List ℕ) (page' : Page) : Type 0 where
  pub after : scene_of desk counters numbers paddles all buffer ≡ meant.after
  pub written : page' ≡ puts meant.text page

-- The same where the parts are lent as one.
pub record PlaysOn (meant : Done) (page : Page) (scene' : Scene) (page' : Page) : Type 0 where
  pub after : scene' ≡ meant.after
  pub written : page' ≡ puts meant.text page

-- The letter of an event, as the code has it.
abbrev pub letter_of : Event → ℕ
letter_of (happens.Press contact) = code "p"
letter_of (happens.Release contact) = code "r"
letter_of happens.Tick = code "t"
letter_of (happens.Packet bytes) = code "k"
letter_of happens.Restart = code "x"

-- What such an event is to the switch.
abbrev pub deed_of : Event → Deed
deed_of (happens.Press contact) = press contact
deed_of (happens.Release contact) = release contact
deed_of happens.Tick = tick
deed_of (happens.Packet bytes) = receive bytes.now
deed_of happens.Restart = restart
