-- The three demands, the neighbours, the causes, the trace, both zeros, many cards on one pair, the shortest normal form and the tables of cases, all
-- together: what the one function of this crate promises.
use Rattle.std.specs.Prelude.{◌≡◌, true, length}
use Rattle.refusal.specs.Lists.{every}
use Rattle.wire.specs.Text.{chars}
use Rattle.wire.specs.Word.{travelling}
use Rattle.hearing.specs.Hearing.{heard}
use Rattle.demands.specs.Bench.{bench_cases, twenty_neighbours, more_cases, first_cases, second_cases, passes, passes_on, scan_cases, passes_scan, no_replies, is_no_reply}
use Rattle.demands.specs.Demand1.{Demand1}
use Rattle.demands.specs.Demand2.{Demand2}
use Rattle.demands.specs.Demand3.{Demand3}
use Rattle.demands.specs.Shortest.{Shortest, RepliesDropped, form_cases, passes_form}
use Rattle.demands.specs.Neighbours.{NeighboursIgnored}
use Rattle.demands.specs.Causes.{Causes}
use Rattle.demands.specs.Traces.{Traces}
use Rattle.demands.specs.Zeros.{Zeros}
use Rattle.demands.specs.BusCases.{Bus}

pub record Demands : Type 0 where
  pub demand_1 : Demand1
  pub demand-2 : Demand2
  pub demand_3 : Demand3
  pub neighbours_ignored : NeighboursIgnored
  pub causes : Causes
  pub traces : Traces
  pub zeros : Zeros
  pub bus : Bus
  pub shortest : Shortest
  pub replies_dropped : RepliesDropped
  -- cases a to l, and the second table
  pub bench : every passes bench_cases ≡ true
  pub more : every passes more_cases ≡ true
  -- the twenty messages of that table are heard
  pub twenty_heard : length (heard (travelling (chars twenty_neighbours))) ≡ 20
  -- both zeros, on the first revision and on the second
  pub zeros_first : every passes first_cases ≡ true
  pub zeros_second : every (passes_on 2) second_cases ≡ true
  -- what a normal form keeps and drops
  pub normal_forms : every passes_form form_cases ≡ true
  -- the scan
  pub scan : every passes_scan scan_cases ≡ true
  pub no-replies : every is_no_reply no_replies ≡ true
