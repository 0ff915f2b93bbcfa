use native.Mathlib.Omega.{arith}
use Rattle.words.proofs.Fills.{lays_filled}
use Rattle.words.proofs.fill_words.Goals as goal

pub returns : goal.returns
returns c =
    let a = c.args in
    lays_filled a.p a.count a.place _ a.fill a.part.now c.fill.new.self (omega arith) (omega (arith, c.min.ensures)) (c.fill.ensures.after (λ y e. e))
