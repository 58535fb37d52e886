-- What is promised of the checks 9, 10 and 13, in the words of their rows. `all` are the registers and h the header.
use Rattle.std.specs.Prelude.{Bool, true, false, List, ◌≡◌, ℕ, Some, None}
use Rattle.vault.specs.declared.Mode.{Mode}
use Rattle.vault.specs.declared.Mode.TheVariants.{Normal, Setup}
use Rattle.levels.specs.Levels.{options_of}
use Rattle.packet.specs.declared.Header.{Header}
use Rattle.places.specs.Places.{network_in, unit_in, dimming_in}
use Rattle.registers.specs.Registers.{found}
use Rattle.verbs.specs.declared.Verb.{Verb}
use Rattle.verbs.specs.declared.Verb.TheVariants.{Open, Close, Get, Set, Activate, Deactivate, Goto, FadeStart, FadeStop, Blink, Report, Store, Unlisted}

-- 01, Answer numbers, row 9: another network than 0 and our own.
abbrev pub Unheard : List ℕ → Header → Type 0
Unheard all h = (h.network ≡ 0 → ⊥) × (h.network ≡ network_in all → ⊥)

-- 01, Answer numbers, row 10: by its destination, a direct packet is neither for all units nor for ours, a link packet for no component.
abbrev pub NotFor : Bool → List ℕ → ℕ → Type 0
NotFor false all destination = (destination ≡ 0 → ⊥) × (destination ≡ unit_in all → ⊥)
NotFor true all destination = found all destination ≡ None

-- 01, Answer numbers, row 10, of a header.
abbrev pub Unreached : List ℕ → Header → Type 0
Unreached all h = NotFor h.link all h.destination

-- 01, Commands, 3: direct, to our own unit and not to 0.
abbrev pub ToUs : List ℕ → Header → Type 0
ToUs all h = (h.link ≡ false) × ((h.destination ≡ unit_in all) × (h.destination ≡ 0 → ⊥))

-- 01, Commands, 8: to us, from a source that a reply can go to.
abbrev pub AskedToReply : List ℕ → Header → Type 0
AskedToReply all h = ToUs all h × (h.source ≡ 0 → ⊥)

-- 01, Commands, 2: a load that can dim, as Fade Start needs it.
abbrev pub Capable : List ℕ → Type 0
Capable all = (options_of (dimming_in all)).capable ≡ true

-- 01, Answer numbers, row 13, is where this does not hold: for each command its kind of packet, its mode and what else it needs (01,
-- Commands, 1 to 4, 7 and 8).
abbrev pub Permitted : Verb → List ℕ → Mode → Header → Type 0
Permitted Open all mode h = ToUs all h × (mode ≡ Normal)
Permitted Close all mode h = (h.link ≡ false) × (mode ≡ Setup)
Permitted Get all mode h = AskedToReply all h
Permitted Set all mode h = ToUs all h × (mode ≡ Setup)
Permitted Activate all mode h = h.link ≡ true
Permitted Deactivate all mode h = h.link ≡ true
Permitted Goto all mode h = Unit {0}
Permitted FadeStart all mode h = Capable all
Permitted FadeStop all mode h = Unit {0}
Permitted Blink all mode h = Unit {0}
Permitted Report all mode h = AskedToReply all h
Permitted Store all mode h = h.link ≡ true
Permitted Unlisted all mode h = ⊥

-- By link, where i is the matching component.
abbrev pub ByLink : ℕ → List ℕ → Header → Type 0
ByLink i all h = (h.link ≡ true) × (found all h.destination ≡ Some i)
