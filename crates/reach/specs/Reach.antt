-- Whom a packet reaches, and which commands it may bring there: the checks 9, 10 and 13.
use Rattle.std.specs.Prelude.{Bool, true, false, ◌&&◌, ◌||◌, List, ℕ, ltb, eqb, if◌then◌else◌, Option, Some, None}
use Rattle.vault.specs.Vault.{in_setup}
use Rattle.vault.specs.declared.Mode.{Mode}
use Rattle.vault.specs.declared.Mode.TheVariants.{Normal, Setup, Factory}
use Rattle.packet.specs.declared.Header.{Header}
use Rattle.places.specs.Places.{network_in, unit_in}
use Rattle.registers.specs.Registers.{found}
use Rattle.verbs.specs.declared.Verb.{Verb}
use Rattle.verbs.specs.declared.Verb.TheVariants.{Open, Close, Get, Set, Activate, Deactivate, Goto, FadeStart, FadeStop, Blink, Report, Store, Unlisted}
use Rattle.reach.specs.declared.Target.{Target}
use Rattle.reach.specs.declared.Target.TheVariants.{Nobody, Everyone, Us, Component}

-- 01, Answer numbers, row 9: network 0 and our own are heard.
unfoldable pub heard : List ℕ → ℕ → Bool
heard all network = eqb network 0 || eqb network (network_in all)

-- 01, Answer numbers, row 10: a direct packet is for every unit (destination 0), for us or for nobody here.
unfoldable pub directly : List ℕ → ℕ → Target
directly all destination =
    if eqb destination 0 then Everyone
    else if eqb destination (unit_in all) then Us
    else Nobody

-- 01, Answer numbers, row 10: a link packet is for the matching component, or for nobody here.
abbrev pub matching : Option ℕ → Target
matching (Some i) = Component i
matching None = Nobody

-- Whom a packet is for, by its kind.
unfoldable pub target_of : List ℕ → Header → Target
target_of all header = if header.link then matching (found all header.destination) else directly all header.destination

-- 01, Answer numbers, row 10: refused is what is for nobody here.
abbrev pub reached : Target → Bool
reached Nobody = false
reached Everyone = true
reached Us = true
reached (Component i) = true

-- 01, Commands, 3: direct, to our own unit and not to 0.
abbrev pub to_us : Target → Bool
to_us Nobody = false
to_us Everyone = false
to_us Us = true
to_us (Component i) = false

-- 01, Commands, 4: direct, to our own unit or to 0.
abbrev pub direct_to : Target → Bool
direct_to Nobody = false
direct_to Everyone = true
direct_to Us = true
direct_to (Component i) = false

-- 01, Commands, 1: by link.
abbrev pub by_link : Target → Bool
by_link Nobody = false
by_link Everyone = false
by_link Us = false
by_link (Component i) = true

-- 01, Commands, 3: Start Setup is for Normal alone.
abbrev pub is_normal : Mode → Bool
is_normal Normal = true
is_normal Setup = false
is_normal Factory = false

-- 01, Answer numbers, row 13. What decides is the packet's kind and destination (01, Commands, 1 to 4 and 7), the mode (3 and 4), for Fade
-- Start a load that can dim (2), and where a reply is due a source other than 0 (8).
unfoldable pub permitted : Verb → Target → Mode → ℕ → Bool → Bool
permitted Open target mode source capable = to_us target && is_normal mode
permitted Close target mode source capable = direct_to target && in_setup mode
permitted Get target mode source capable = to_us target && ltb 0 source
permitted Set target mode source capable = to_us target && in_setup mode
permitted Activate target mode source capable = by_link target
permitted Deactivate target mode source capable = by_link target
permitted Goto target mode source capable = true
permitted FadeStart target mode source capable = capable
permitted FadeStop target mode source capable = true
permitted Blink target mode source capable = true
permitted Report target mode source capable = to_us target && ltb 0 source
permitted Store target mode source capable = by_link target
permitted Unlisted target mode source capable = false

-- The component that a link packet reaches; 0 for the rest, whose orders name none.
abbrev pub component_of : Target → ℕ
component_of Nobody = 0
component_of Everyone = 0
component_of Us = 0
component_of (Component i) = i
