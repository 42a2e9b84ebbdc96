-- `demands::demands` meets its contract: three, and every claim. Assumes nothing.
use mathlib.Core.Path.{refl}
use Rattle.demands.specs.Demand2.{Demand2}
use Rattle.demands.specs.BusCases.{Bus}
use Rattle.demands.specs.Demands.{Demands}
use Rattle.demands.proofs.Cases.{bench, more, zeros_first, zeros_second, twenty_heard, normal_forms, scan, no-replies}
use Rattle.demands.proofs.BusCases.{bus_tables, not_empty}
use Rattle.demands.proofs.Refusals.{demand_1}
use Rattle.demands.proofs.Words.{writers_heard, run_steps}
use Rattle.demands.proofs.Kept.{stays_sound}
use Rattle.demands.proofs.Answers.{reply_read}
use Rattle.demands.proofs.Possible.{reader_exact}
use Rattle.demands.proofs.Offers.{offer_reachable, never_up}
use Rattle.demands.proofs.Recordings.{demand_3}
use Rattle.demands.proofs.Shortest.{shortest, replies_dropped}
use Rattle.demands.proofs.Neighbours.{neighbours_ignored}
use Rattle.demands.proofs.Causes.{causes}
use Rattle.demands.proofs.Traces.{traces}
use Rattle.demands.proofs.Zeros.{zeros}
use Rattle.demands.proofs.Pair.{one_pair, bus_demand_3}
use Rattle.demands.proofs.Alone.{each_alone}
use Rattle.demands.proofs.BusRows.{rows_keep}
use Rattle.demands.proofs.Isolated.{isolated}
use Rattle.demands.proofs.demands.Goals as goal

demand-2 : Demand2
demand-2 = record {
  writer_heard = writers_heard;
  reply_read = reply_read;
  reader_exact = reader_exact;
  offer_reachable = offer_reachable;
  never_up = never_up;
  stays_sound = stays_sound;
  run_steps = run_steps;
}

bus : Bus
bus = record { each_alone = each_alone; isolated = isolated; bus_demand_3 = bus_demand_3; one_pair = one_pair; rows_keep = rows_keep; not_empty = not_empty; bus_tables = bus_tables }

all_hold : Demands
all_hold = record {
  demand_1 = demand_1;
  demand-2 = demand-2;
  demand_3 = demand_3;
  neighbours_ignored = neighbours_ignored;
  causes = causes;
  traces = traces;
  zeros = zeros;
  bus = bus;
  shortest = shortest;
  replies_dropped = replies_dropped;
  bench = bench;
  more = more;
  twenty_heard = twenty_heard;
  zeros_first = zeros_first;
  zeros_second = zeros_second;
  normal_forms = normal_forms;
  scan = scan;
  no-replies = no-replies;
}

pub returns : goal.returns
returns c = (refl, all_hold)
