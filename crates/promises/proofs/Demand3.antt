-- Demand 3, shown of the full switch.
use mathlib.Core.List.{List}
use mathlib.Core.Path.{◌≡◌, refl, sym, ap, ◌∙◌}
use lib.ListN.{length, get_or}
use Rattle.vault.specs.Job.{Switch}
use Rattle.vault.specs.Promises.{KeepsItsPassword}
use Rattle.vault.specs.Vault.{in_setup}
use Rattle.vault.proofs.Secrecy.{keeps_its_password}
use Rattle.registers.specs.Registers.{image_of}
use Rattle.registers.proofs.Laws.{alike_apart, image_length, image_other, registers_back}
use Rattle.acts.specs.Core.{started}
use Rattle.switch.specs.Switch.{Plain, plain}
use Rattle.switch.specs.Events.{woken}
use Rattle.switch.specs.Respond.{wall_switch, started_from}
use Rattle.promises.specs.Demand3.{Alike, Demand3, EverApart, HeldApart, Lent, NeverOpens, OfTwoImages, OfTwoSwitches, Outside, SameToTheEye, after_all, events, filled}
use Rattle.promises.proofs.Bounds.{within_bounds}
use Rattle.promises.proofs.Careful.{careful}

-- The full switch keeps its password.
pub keeps : KeepsItsPassword wall_switch
keeps = keeps_its_password wall_switch careful

-- Two switches that hold the same but for the password are alike.
pub same_alike : (s t : Switch Plain) → s.plain ≡ t.plain → Alike s t
same_alike s t e =
    let same = ap (λ p. p.registers) e in
    record {
      core = ap (λ p. p.core) e;
      paddles = ap (λ p. p.paddles) e;
      registers = (
        image_length s.plain.registers s.password ∙ ap length same ∙ sym (image_length t.plain.registers t.password),
        λ k h. image_other s.plain.registers s.password k h ∙ ap (λ l. get_or l k 0) same ∙ sym (image_other t.plain.registers t.password k h),
      );
    }

-- And back, where both hold the password apart.
pub alike_same : (s t : Switch Plain) → HeldApart s → HeldApart t → Alike s t → s.plain ≡ t.plain
alike_same s t ds dt a =
    let images = alike_apart (image_of s.plain.registers s.password) (image_of t.plain.registers t.password) a.registers.0 a.registers.1 in
    let same : s.plain.registers ≡ t.plain.registers =
    sym (registers_back s.plain.registers s.password ds) ∙ images ∙ registers_back t.plain.registers t.password dt in
    λ i. plain (same i) (a.core i) (a.paddles i)

same_eye : (s t : Switch Plain) (ls : List Lent) → s.plain ≡ t.plain → Outside s → NeverOpens s ls → NeverOpens t ls → SameToTheEye s t ls
same_eye s t ls e out outs outt =
    let ends = keeps.one.secret s t (events ls) e out outs outt in
    record {
      shown = ends.0;
      bytes = ap (λ xs. filled xs ls) ends.0;
      holds = same_alike (after_all s ls) (after_all t ls) ends.1;
    }

of_two_switches : OfTwoSwitches
of_two_switches s t ls ds dt a = same_eye s t ls (alike_same s t ds dt a)

of_two_images : OfTwoImages
unfolding started_from woken started in_setup
of_two_images a b ls whole same =
    same_eye (started_from a) (started_from b) ls (ap woken (alike_apart a b same.0 same.1)) refl

ever_apart : EverApart
ever_apart image ls long = (within_bounds.run_stays (started_from image) (events ls) (within_bounds.start image long)).dead

-- Demand 3.
pub demand_3 : Demand3
demand_3 = record { switches = of_two_switches; images = of_two_images; apart = ever_apart; guest = keeps }
