use Rattle.trace.proofs.Turned.{turned_as}
use Rattle.trace.proofs.Bench.take_turn.Goals as goal

pub returns-in-Format : goal.returns-in-Format
returns-in-Format c = turned_as _ _ _ _ c.parse.ensures c.in-Format.is (c.format_turn.ensures _)

pub returns-in-Store : goal.returns-in-Store
returns-in-Store c = turned_as _ _ _ _ c.parse.ensures c.in-Store.is c.store_turn.ensures

pub returns-in-Load : goal.returns-in-Load
returns-in-Load c = turned_as _ _ _ _ c.parse.ensures c.in-Load.is (c.load_turn.ensures _)

pub returns-in-Begin : goal.returns-in-Begin
returns-in-Begin c = turned_as _ _ _ _ c.parse.ensures c.in-Begin.is (c.begin_turn.ensures _)

pub returns-in-Step : goal.returns-in-Step
returns-in-Step c = turned_as _ _ _ _ c.parse.ensures c.in-Step.is (c.step_turn.ensures _)

pub returns-in-Allow : goal.returns-in-Allow
returns-in-Allow c = turned_as _ _ _ _ c.parse.ensures c.in-Allow.is (c.allow_turn.ensures _)

pub returns-in-Recover : goal.returns-in-Recover
returns-in-Recover c = turned_as _ _ _ _ c.parse.ensures c.in-Recover.is (c.recover_turn.ensures _)

pub returns-in-Bad : goal.returns-in-Bad
returns-in-Bad c = turned_as _ _ _ _ c.parse.ensures c.in-Bad.is (c.bad_turn.ensures _)
