-- What each kind of order keeps, so that the signal alone is left to it, and how its reply is told by its length.
use Rattle.std.specs.Prelude.{◌≡◌, ℕ, ◌≤◌, List, [], ◌∷◌, length, Option, None, Result, Err}
use mathlib.Core.Path.{refl, sym, ap, ◌∙◌}
use native.Mathlib.Omega.{arith}
use borrow.Author.Tests.{eq-eqb, ne_eqb}
use Rattle.units.specs.Units.{percent_of}
use Rattle.units.specs.declared.Percent.{Percent}
use Rattle.units.specs.declared.Step.{Step}
use Rattle.vault.specs.Job.{became, changed}
use Rattle.vault.specs.declared.Mode.{Mode}
use Rattle.vault.specs.declared.Mode.TheVariants.{Normal, Setup}
use Rattle.vault.specs.declared.Password.{Password}
use Rattle.packet.specs.declared.Header.{Header}
use Rattle.packet.proofs.Laws.{packed_length}
use Rattle.lamp.specs.Lamp.{entered}
use Rattle.lamp.specs.declared.Colour.TheVariants.{Green, Red}
use Rattle.lamp.specs.declared.Lamp.{Lamp}
use Rattle.dimmer.specs.declared.Dimmer.{Dimmer}
use Rattle.model.specs.Model.{place}
use Rattle.writes.specs.Writes.{applied, change_of, change_at}
use Rattle.places.specs.declared.Counter.TheVariants.{Setups}
use Rattle.writes.specs.declared.Write.{Write}
use Rattle.writes.specs.declared.Write.TheVariants as write
use Rattle.judge.specs.declared.Drive.{Drive}
use Rattle.judge.specs.declared.Order.{Order}
use Rattle.judge.specs.declared.Order.TheVariants as order
use Rattle.judge.specs.declared.Work.{Work}
use Rattle.judge.specs.declared.Work.TheVariants as work
use Rattle.acts.specs.Core.{with_dimmer, unwritten, entering, opened}
use Rattle.orders.specs.Orders.{driven, stored, performed}
use Rattle.post.specs.Post.{enveloped, bytes_of, values_from, reply_message, replied}
use Rattle.post.specs.Code.{front, Laid}
use Rattle.post.specs.declared.Reply.{Reply}
use Rattle.post.specs.declared.Reply.TheVariants as reply
use Rattle.post.proofs.Laws.{nothing_laid, laid_fits, reply_fits}
use Rattle.state.specs.State.{mode_in, level_in, dimmer_of, lamp_of, password_of, core_of}
use Rattle.state.specs.Keeping.{kept_mode, kept_password, kept_timers}
use Rattle.state.specs.Code.{Sized, DimmerKept, LampKept}
use Rattle.state.proofs.Laws.{hue_same, lamp_of_password, lamp_of_mode, lamp_of_levels, lamp_of_course}
use Rattle.state.proofs.Laws.{only_lamp, dimmer_lamp, mode_lamp, password_lamp, timers_over, timers_back, sized_mode}
use Rattle.obey.specs.Obey.{reply_to, hue_of}
use Rattle.verdict.specs.Code.{seen_by, seen_of}
use Rattle.obey.specs.Code.{effect_of, reply_of, hue_by, Ready, Obeys, Sets, effect_on, reply_on, seen_on}

-- Nothing is kept: ready as it was read.
pub ready_same : (c n : List ℕ) → Ready (core_of c n) (password_of n) c n c n
unfolding core_of
ready_same c n = record { lamp = refl; counted = λ l. sym (only_lamp c n l).0; numbered = λ l. sym (only_lamp c n l).1 }

-- The dimmer is kept,
pub ready_driven : (d : Dimmer) (c n c' n' : List ℕ) → DimmerKept d c n c' n' → Ready (with_dimmer d (core_of c n)) (password_of n) c n c' n'
unfolding core_of
ready_driven d c n c' n' kept =
    rw (kept.counted, kept.numbered)
    record {
      lamp = lamp_of_course d.motion c _ ∙ lamp_of_levels d c n;
      counted = λ l. sym (dimmer_lamp c n d l).0;
      numbered = λ l. sym (dimmer_lamp c n d l).1;
    }

-- the password,
pub ready_password : (w : Password) (c n n' : List ℕ) → n' ≡ kept_password w n → Ready (core_of c n) w c n c n'
unfolding core_of
ready_password w c n n' kept =
    rw kept
    record {
      lamp = lamp_of_password w c n;
      counted = λ l. sym (password_lamp c n w l).0;
      numbered = λ l. sym (password_lamp c n w l).1;
    }

-- or the mode with its blinks and its flash; the hue of the signal stays.
entered_hue : (l : Lamp) → (entered l).hue ≡ l.hue
unfolding entered
entered_hue l = refl

pub ready_entered :
    (mode : Mode) (c n n₁ : List ℕ) (l m : Lamp) (c' n' : List ℕ)
    → Sized c n
    → n₁ ≡ kept_mode mode n
    → l ≡ lamp_of c n₁
    → m ≡ entered l
    → LampKept m c n₁ c' n'
    → Ready (entering mode (core_of c n)) (password_of n) c n c' n'
unfolding core_of entering
ready_entered mode c n n₁ l m c' n' sized first read after kept =
    let next = kept_mode mode n in
    let lamp = entered (lamp_of c next) in
    let is : m ≡ lamp = after ∙ rw (read, first) in
    let counters : c' ≡ kept_timers lamp c = kept.counted ∙ rw is in
    let numbers : n' ≡ next = kept.numbered ∙ rw (is, first, entered_hue) (hue_same c next) in
    rw (counters, numbers)
    record {
      lamp = timers_back lamp c next (sized_mode mode c n sized) (entered_hue _) ∙ ap entered (lamp_of_mode mode c n);
      counted = λ l. timers_over l lamp c n sized ∙ sym (mode_lamp c n mode l).0;
      numbered = λ l. sym (mode_lamp c n mode l).1;
    }

-- Registers are set, and the password with them.
pub sets_both :
    (first : ℕ) (values n all : List ℕ) (v w : Password) (all' n' : List ℕ)
    → v ≡ password_of n
    → w ≡ changed (change_of (write.Values first) values) v
    → all' ≡ applied (write.Values first) values all
    → n' ≡ kept_password w n
    → Sets first values n all n' all'
sets_both first values n all v w all' n' read after done kept = record { numbered = kept ∙ rw (after, read); registers = done }

-- No reply: nothing is laid.
pub silent : (all : List ℕ) (s : Option Password) (to : ℕ) (p : Percent) (out : List ℕ) → Laid (replied all s to reply.Silence p) out 0 out
unfolding replied reply_message enveloped
silent all s to p out = nothing_laid out

-- Each work.
module _ (asked : Work) (values : List ℕ) (source : ℕ) (c n all out : List ℕ) where
  pub reports :
      (level : Step) (p : Percent) (size : ℕ) (out' : List ℕ)
      → asked ≡ work.Report
      → level ≡ level_in n
      → p ≡ percent_of level
      → Laid (replied all None source reply.Status p) out size out'
      → Obeys (performed all asked (core_of c n)) values source (reply_to asked) None c n all out size c n all out'
  unfolding performed unwritten reply_to core_of dimmer_of applied change_of change_at changed became
  reports level p size out' told read percent laid =
      rw told record { ready = ready_same c n; registers = refl; laid = rw (percent, read) at laid }

  pub closes :
      (c' n' : List ℕ)
      → asked ≡ work.Close
      → Ready (entering Normal (core_of c n)) (password_of n) c n c' n'
      → Obeys (performed all asked (core_of c n)) values source (reply_to asked) None c n all out 0 c' n' all out
  unfolding performed unwritten reply_to applied change_of change_at changed became
  closes c' n' told ready = rw told record { ready = ready; registers = refl; laid = silent _ _ _ _ out }

  pub sets :
      (first : ℕ) (n' all' : List ℕ)
      → asked ≡ work.Set first
      → Sets first values n all n' all'
      → Obeys (performed all asked (core_of c n)) values source (reply_to asked) None c n all out 0 c n' all' out
  unfolding performed reply_to
  sets first n' all' told done =
      rw told record { ready = ready_password _ c n n' done.numbered; registers = done.registers; laid = silent _ _ _ _ out }

  pub stores :
      (i : ℕ) (level : Step) (write : Write) (all' : List ℕ)
      → asked ≡ work.Store i
      → level ≡ level_in n
      → write ≡ stored level i
      → all' ≡ applied write [] all
      → Obeys (performed all asked (core_of c n)) values source (reply_to asked) None c n all out 0 c n all' out
  unfolding performed reply_to stored core_of dimmer_of applied change_of change_at changed became
  stores i level write all' told read chosen done =
      rw told record { ready = ready_same c n; registers = done ∙ rw (chosen, read); laid = silent _ _ _ _ out }

  pub drives :
      (d : Drive) (c' n' : List ℕ)
      → asked ≡ work.Drive d
      → DimmerKept (driven all d (dimmer_of c n)) c n c' n'
      → Obeys (performed all asked (core_of c n)) values source (reply_to asked) None c n all out 0 c' n' all out
  unfolding performed unwritten reply_to core_of applied change_of change_at changed became
  drives d c' n' told kept =
      rw told record { ready = ready_driven _ c n c' n' kept; registers = refl; laid = silent _ _ _ _ out }

-- One that is refused leaves all as it is.
pub refuses : {E : Type 0} (asked : Result Order E) (e : E) (values : List ℕ) (source : ℕ) (c n all out : List ℕ)
    → asked ≡ Err e
    → Obeys (effect_on all asked (core_of c n)) values source (reply_on asked) (seen_on asked (mode_in n) (password_of n)) c n all out 0 c n all out
unfolding effect_on unwritten reply_on seen_on applied change_of change_at changed became
refuses asked e values source c n all out told = rw told record { ready = ready_same c n; registers = refl; laid = silent _ _ _ _ out }

-- Each order.
module _ (asked : Order) (values : List ℕ) (source : ℕ) (c n all out : List ℕ) where
  abbrev Done : ℕ → List ℕ → List ℕ → List ℕ → List ℕ → Type 0
  Done size c' n' all' out' =
      Obeys (effect_of all asked (core_of c n)) values source (reply_of asked) (seen_of asked (mode_in n) (password_of n)) c n all out size c' n' all' out'

  pub opens :
      (guess : Password) (all' c' n' : List ℕ)
      → asked ≡ order.Guess guess
      → all' ≡ applied (write.Count Setups) [] all
      → Ready (entering Setup (core_of c n)) (password_of n) c n c' n'
      → Done 0 c' n' all' out
  unfolding effect_of opened reply_of seen_of applied change_of change_at changed became
  opens guess all' c' n' told done ready = rw told record { ready = ready; registers = done; laid = silent _ _ _ _ out }

  pub reads :
      (first count : ℕ) (level : Step) (p : Percent) (mode : Mode) (w : Password) (s : Option Password) (size : ℕ) (out' : List ℕ)
      → asked ≡ order.Read first count
      → level ≡ level_in n
      → p ≡ percent_of level
      → mode ≡ mode_in n
      → w ≡ password_of n
      → s ≡ seen_by mode w
      → Laid (replied all s source (reply.Registers first count) p) out size out'
      → Done size c n all out'
  unfolding effect_of unwritten reply_of seen_of core_of dimmer_of applied change_of change_at changed became
  reads first count level p mode w s size out' told read percent in-mode secret shown laid =
      rw told record { ready = ready_same c n; registers = refl; laid = rw (shown, secret, in-mode, percent, read) at laid }

  pub works :
      (o : Work) (size : ℕ) (c' n' all' out' : List ℕ)
      → asked ≡ order.Work o
      → Obeys (performed all o (core_of c n)) values source (reply_to o) None c n all out size c' n' all' out'
      → Done size c' n' all' out'
  unfolding effect_of reply_of seen_of
  works o size c' n' all' out' told done = rw told done

-- A reply has bytes, and silence has none: the length of what is laid tells the signal.
none_sent : (h : Header) (n : ℕ) → n ≡ length (front (enveloped h [])) → hue_by n ≡ Green
unfolding enveloped front hue_by
none_sent h n e = rw (eq-eqb n 0 e)

some_sent : (h : Header) (b : ℕ) (bs : List ℕ) (n : ℕ) → n ≡ length (front (enveloped h (b ∷ bs))) → hue_by n ≡ Red
unfolding enveloped front hue_by
some_sent h b bs n e = rw (ne_eqb n 0 (λ z. omega (arith, packed_length h (b ∷ bs))))

hue_sent : (all : List ℕ) (s : Option Password) (to : ℕ) (r : Reply) (p : Percent) (n : ℕ) → n ≡ length (front (replied all s to r p)) → hue_by n ≡ hue_of r
unfolding replied reply_message bytes_of values_from hue_of
hue_sent all s to reply.Silence p n e = none_sent _ n e
hue_sent all s to reply.Status p n e = some_sent _ _ _ n e
hue_sent all s to (reply.Registers first count) p n e = some_sent _ _ _ n e

pub hue_told :
    (all : List ℕ) (s : Option Password) (to : ℕ) (r : Reply) (p : Percent) (out out' : List ℕ) (n : ℕ)
    → place ≤ length out → Laid (replied all s to r p) out n out' → hue_by n ≡ hue_of r
hue_told all s to r p out out' n room laid =
    hue_sent all s to r p n (laid_fits (replied all s to r p) out out' n (reply_fits all s to r p) room laid)
