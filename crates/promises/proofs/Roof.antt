-- All that we answer for.
use Rattle.packet.proofs.Laws.{exactly}
use Rattle.writer.proofs.Laws.{exactly_written, one_written}
use Rattle.writer.proofs.Inverse.{reads_back, reads_back_lent, worked, writes_back, writes_back_lent}
use Rattle.herald.proofs.Announcing.{announced_reads, announces, hides}
use Rattle.post.proofs.Sending.{replied_reads}
use Rattle.host.specs.Host.{in_figures}
use Rattle.host.proofs.Laws.{keeps_what_it_read, mirrors_back, refused_start_leaves_all, start_forgets, one_outcome as speaks-one-way}
use Rattle.promises.specs.Roof.{AnsweredFor, Besides, Demand1, Demand2, Library, OneLayout}
use Rattle.promises.proofs.Demand3.{demand_3}
use Rattle.promises.proofs.Bounds.{within_bounds}
use Rattle.promises.proofs.Numbers.{numbers}
use Rattle.promises.proofs.Ticks.{by_itself}
use Rattle.promises.proofs.Cases.{cases}
use Rattle.promises.proofs.Rivals.{one_outcome, shuts_out}
use Rattle.promises.proofs.Sequence.{after_any_calls}
use Rattle.promises.proofs.Modes.{finds_modes}
use Rattle.promises.proofs.Opening.{opening}
use Rattle.promises.proofs.Alters.{alters}
use Rattle.promises.proofs.Reached.{passing}
use Rattle.promises.proofs.Presets.{presets}
use Rattle.promises.proofs.Clock.{clock}

demand_1 : Demand1
demand_1 = record { numbers = numbers; writer = exactly_written; refused_start = refused_start_leaves_all }

one_layout : OneLayout
one_layout = record {
  reader = exactly;
  reads_back = reads_back;
  writes_back = writes_back;
  reads_back_lent = reads_back_lent;
  writes_back_lent = writes_back_lent;
  one_way = one_written;
  worked = worked;
  announces = announces;
  announced = announced_reads;
  replied = replied_reads;
}

library : Library
library = record { back = mirrors_back; keeps = keeps_what_it_read; forgets = start_forgets; one_way = speaks-one-way }

demand_2 : Demand2
demand_2 = record {
  calls = after_any_calls (λ a. a);
  spoken = after_any_calls in_figures;
  outcome = one_outcome;
  shuts_out = shuts_out;
  bounds = within_bounds;
  cases = cases;
  by_itself = by_itself;
  layout = one_layout;
  library = library;
}

besides : Besides
besides = record {
  opening = opening;
  modes = finds_modes;
  alters = alters;
  passing = passing;
  presets = presets;
  hides = hides;
  clock = clock;
}

-- The one theorem.
pub answered_for : AnsweredFor
answered_for = record { demand_1 = demand_1; demand_2 = demand_2; demand_3 = demand_3; besides = besides }
