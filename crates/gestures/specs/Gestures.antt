-- What a paddle's gesture does by the mode it finds (01, Paddles, 6 to 9). The paddle is known by its number; `model` says whether it is
-- a top one, and whether it drives the load: one that does not leaves the dimmer alone.
use Rattle.std.specs.Prelude.{List, ℕ, eqb, if◌then◌else◌, Option, Some, None}
use Rattle.vault.specs.declared.Mode.{Mode}
use Rattle.vault.specs.declared.Mode.TheVariants.{Normal, Setup, Factory}
use Rattle.levels.specs.Levels.{options_of}
use Rattle.paddle.specs.declared.Gesture.{Gesture}
use Rattle.paddle.specs.declared.Gesture.TheVariants.{Taps, Hold, Release}
use Rattle.model.specs.Model.{is_top}
use Rattle.places.specs.Places.{action_in, dimming_in}
use Rattle.places.specs.declared.Action.{Action}
use Rattle.places.specs.declared.Counter.TheVariants.{Setups}
use Rattle.writes.specs.declared.Write.{Write}
use Rattle.writes.specs.declared.Write.TheVariants.{Count, Nothing as Unwritten, Factory as FactoryValues}
use Rattle.acts.specs.Core.{effect, unwritten, setting, stopping, entering, opened}
use Rattle.acts.specs.declared.Core.{Core}
use Rattle.acts.specs.declared.Effect.{Effect}

-- 01, Paddles, 6: an action of the table sets its level at its rate.
unfoldable pub by_action : List ℕ → ℕ → Action → Core → Core
by_action all paddle action c = setting all paddle action.level action.rate c

-- 01, Paddles, 7: the percent that a Hold heads for.
unfoldable pub far : ℕ → ℕ
far paddle = if is_top paddle then 100 else 0

-- 01, Paddles, 7: a Hold, which does nothing to a load that cannot dim. The rate 255 is the default rate.
unfoldable pub holding : List ℕ → ℕ → Core → Core
holding all paddle c = if (options_of (dimming_in all)).capable then setting all paddle (far paddle) 255 c else c

-- 01, Paddles, 6: one tap and two act by the table, five open Setup.
unfoldable pub taps_in_normal : List ℕ → ℕ → ℕ → Core → Effect
taps_in_normal all paddle taps c =
    if eqb taps 1 then unwritten (by_action all paddle (action_in all paddle 1) c)
    else if eqb taps 2 then unwritten (by_action all paddle (action_in all paddle 2) c)
    else if eqb taps 5 then opened c
    else unwritten c

-- 01, Paddles, 6 and 7. A Release stops, whether the load can dim or not.
unfoldable pub acted_in_normal : List ℕ → ℕ → Option Gesture → Core → Effect
acted_in_normal all paddle None c = unwritten c
acted_in_normal all paddle (Some (Taps n)) c = taps_in_normal all paddle n c
acted_in_normal all paddle (Some Hold) c = unwritten (holding all paddle c)
acted_in_normal all paddle (Some Release) c = unwritten (stopping paddle c)

-- 01, Paddles, 8: two taps leave Setup, ten set the factory values.
unfoldable pub taps_in_setup : ℕ → Core → Effect
taps_in_setup taps c =
    if eqb taps 2 then unwritten (entering Normal c)
    else if eqb taps 10 then effect (entering Factory c) FactoryValues
    else unwritten c

-- 01, Paddles, 8: nothing but taps acts in Setup.
unfoldable pub acted_in_setup : Option Gesture → Core → Effect
acted_in_setup None c = unwritten c
acted_in_setup (Some (Taps n)) c = taps_in_setup n c
acted_in_setup (Some Hold) c = unwritten c
acted_in_setup (Some Release) c = unwritten c

-- 01, Paddles, 9: two taps leave Factory Default, one acts as in Normal, five do nothing.
unfoldable pub taps_in_factory : List ℕ → ℕ → ℕ → Core → Effect
taps_in_factory all paddle taps c =
    if eqb taps 1 then unwritten (by_action all paddle (action_in all paddle 1) c)
    else if eqb taps 2 then unwritten (entering Normal c)
    else unwritten c

-- 01, Paddles, 9: Hold and Release act as in Normal.
unfoldable pub acted_in_factory : List ℕ → ℕ → Option Gesture → Core → Effect
acted_in_factory all paddle None c = unwritten c
acted_in_factory all paddle (Some (Taps n)) c = taps_in_factory all paddle n c
acted_in_factory all paddle (Some Hold) c = unwritten (holding all paddle c)
acted_in_factory all paddle (Some Release) c = unwritten (stopping paddle c)

-- What a gesture does in each mode.
unfoldable pub acted_in : Mode → List ℕ → ℕ → Option Gesture → Core → Effect
acted_in Normal all paddle g c = acted_in_normal all paddle g c
acted_in Setup all paddle g c = acted_in_setup g c
acted_in Factory all paddle g c = acted_in_factory all paddle g c

-- The mode meant is the one that the gesture finds.
unfoldable pub acted : List ℕ → ℕ → Option Gesture → Core → Effect
acted all paddle g c = acted_in c.mode all paddle g c

-- What a gesture writes, by the mode that it finds and by nothing else.
unfoldable pub writes : Mode → Option Gesture → Write
writes Normal None = Unwritten
writes Normal (Some (Taps n)) = if eqb n 5 then Count Setups else Unwritten
writes Normal (Some Hold) = Unwritten
writes Normal (Some Release) = Unwritten
writes Setup None = Unwritten
writes Setup (Some (Taps n)) = if eqb n 10 then FactoryValues else Unwritten
writes Setup (Some Hold) = Unwritten
writes Setup (Some Release) = Unwritten
writes Factory g = Unwritten

-- Which mode a gesture leaves, by the mode that it finds and by nothing else.
unfoldable pub leads : Mode → Option Gesture → Mode
leads Normal None = Normal
leads Normal (Some (Taps n)) = if eqb n 5 then Setup else Normal
leads Normal (Some Hold) = Normal
leads Normal (Some Release) = Normal
leads Setup None = Setup
leads Setup (Some (Taps n)) = if eqb n 2 then Normal else if eqb n 10 then Factory else Setup
leads Setup (Some Hold) = Setup
leads Setup (Some Release) = Setup
leads Factory None = Factory
leads Factory (Some (Taps n)) = if eqb n 2 then Normal else Factory
leads Factory (Some Hold) = Factory
leads Factory (Some Release) = Factory
