use Rattle.forms.proofs.Lists.{bytes_one, header_lays}
use Rattle.forms.proofs.HeaderBytes.{second_part}
use native.Mathlib.Omega.{arith}
use Rattle.header.proofs.stored.lay_header.Goals as goal

pub overflow_add-result : goal.overflow_add-result
overflow_add-result c =
    let second = bytes_one _ _ c.lay_bytes-second.ensures in
    let first = bytes_one _ _ c.lay_bytes-first.ensures in
    omega (arith, second, first)

pub returns : goal.returns
returns c = header_lays c.args.g c.memory_words-first_place.ensures c.header_bytes-header.result _ c.header_bytes-header.ensures (second_part c.args.g _ c.header_bytes-header.ensures) c.lay_bytes-second.ensures c.saturating_sub-left.ensures c.lay_bytes-first.ensures
