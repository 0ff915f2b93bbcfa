-- The calls, and the one outcome of each (document 01, all of it; document 02, No. 7).
use Rattle.std.specs.Prelude.{List, ℕ}
use Rattle.rules.specs.declared.Geometry.{Geometry}
use Rattle.rules.specs.Board.{Board}
use Rattle.rules.specs.Power.{Plan, Outcome, settle}
use Rattle.rules.specs.Loads.{load_plan, peek_plan}
use Rattle.rules.specs.Stores.{store_plan}
use Rattle.rules.specs.Checkpoints.{begin_plan, step_plan}
use Rattle.rules.specs.Sweeps.{sweep_plan}
use Rattle.rules.specs.Starts.{format_plan, recover_plan}

pub data Call : Type 0 where
  -- block, offset, length
  load : ℕ → ℕ → ℕ → Call
  -- block
  peek : ℕ → Call
  -- block, offset, bytes
  store : ℕ → ℕ → List ℕ → Call
  -- registers
  begin : List ℕ → Call
  -- n
  step : ℕ → Call
  -- sizes, fill byte
  format : Geometry → ℕ → Call
  -- sizes
  recover : Geometry → Call
  -- limit
  sweep : ℕ → Call

unfoldable pub plan : Board → Call → Plan
unfolding load_plan peek_plan store_plan begin_plan step_plan format_plan recover_plan sweep_plan
plan board (load block offset len) = load_plan board block offset len
plan board (peek block) = peek_plan board block
plan board (store block offset bytes) = store_plan board block offset bytes
plan board (begin registers) = begin_plan board registers
plan board (step n) = step_plan board n
plan board (format g fill) = format_plan board g fill
plan board (recover g) = recover_plan board g
plan board (sweep limit) = sweep_plan board limit

-- a call on a board, with an allowance of p words
unfoldable pub call : ℕ → Board → Call → Outcome
unfolding settle plan
call p board c = settle p board (plan board c)
