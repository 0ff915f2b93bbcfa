use mathlib.Core.Path.{refl, sym, ◌∙◌, subst}
use Rattle.wires.specs.Reading.{ReadsWire}
use Rattle.wires.proofs.Ends.{not_done, is_done, wire_refused, wire_accepted}
use Rattle.wires.proofs.read.Goals as goal

pub returns-then-ne : goal.returns-then-ne
returns-then-ne c = wire_refused _ _ _ _ _ refl c.load-number.ensures (not_done _ (sym c.ne.ensures ∙ c.if-ne.true))

pub returns : goal.returns
returns c =
    subst (ReadsWire _ _) (sym c.ok_or.ensures.value)
    (wire_accepted _ _ _ _ _ refl c.load-number.ensures (is_done _ (sym c.ne.ensures ∙ c.if-ne.false)) _ c.read_block.ensures)
