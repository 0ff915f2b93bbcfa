use Rattle.checks.proofs.Flaws.{none_gathered, gathered}
use Rattle.checks.proofs.Summing.{sum_few, sum_fits, every_before, every_here, walked}
use Rattle.rules.specs.Numbers.{well_formed, allows}
use Rattle.rules.specs.TableWords.{every}
use Rattle.std.proofs.Common.{◌≡◌, sum_by, take, take_all, sym, refl, ap, ◌∙◌, arith}
use Rattle.std.proofs.lemmas.List.Sums.{sum_by_more}
use Rattle.checks.proofs.walks.walk_table.Goals as goal

pub loop-word-init : goal.loop-word-init
loop-word-init g c = record { gathered = λ h some blocks e. none_gathered _; few = omega arith; summed = λ f is e. refl }

pub overflow_add-total : goal.overflow_add-total
overflow_add-total g c =
    let l = c.loop-word in
    let small = sum_fits _ _ _ _ _ l.invariant.few (c.requires.fits _ _ c.number-total.ensures) c.loop-word-test.true in
    omega arith

pub loop-word-preserved : goal.loop-word-preserved
loop-word-preserved g c =
    let a = c.args in
    let l = c.loop-word in
    let t = a.table.now in
    let h = c.loop-word-test.true in
    record {
      gathered = λ s some blocks e. gathered c.is_writing-writing.result s t l.word-index l.flawed l.seen _ _ h (l.invariant.gathered s some blocks e) (c.flaws-flawed.ensures s some blocks e) c.watched-seen.ensures;
      few = sum_few _ _ _ _ _ l.invariant.few (c.requires.fits _ _ c.number-total.ensures);
      summed = λ f is e.
          let here = is _ _ (every_here _ t l.word-index h e) c.number-total.ensures in
          let before = l.invariant.summed f is (every_before _ t l.word-index h e) in
          let more = sum_by_more f t l.word-index 0 h in
          cc;
    }

pub returns-then-not-all_formed-clause-formed : goal.returns-then-not-all_formed-clause-formed
returns-then-not-all_formed-clause-formed g c =
    let l = c.loop-word in
    let q = c.requires.sizes in
    sym c.if-not-all_formed.true ∙ c.all_formed.ensures ∙ walked c.args.phase c.args.g c.args.table.now l.word-index _ _ _ _ l.invariant.gathered q.0 q.1 c.margin-added.ensures c.is_writing-writing.ensures c.loop-word-test.false

pub returns-clause-formed : goal.returns-clause-formed
returns-clause-formed g c =
    let l = c.loop-word in
    let q = c.requires.sizes in
    sym c.if-not-all_formed.false ∙ c.all_formed.ensures ∙ walked c.args.phase c.args.g c.args.table.now l.word-index _ _ _ _ l.invariant.gathered q.0 q.1 c.margin-added.ensures c.is_writing-writing.ensures c.loop-word-test.false

pub returns-clause-summed : goal.returns-clause-summed
returns-clause-summed g c = λ f is total e.
    let a = c.args in
    let t = a.table.now in
    let l = c.loop-word in
    let q = c.requires.sizes in
    let formed = sym (walked a.phase a.g t l.word-index _ _ _ _ l.invariant.gathered q.0 q.1 c.margin-added.ensures c.is_writing-writing.ensures c.loop-word-test.false) ∙ sym c.all_formed.ensures ∙ c.if-not-all_formed.false in
    let whole = take_all l.word-index t c.loop-word-test.false in
    let summed = l.invariant.summed f is (ap (every (well_formed (allows a.phase) a.g)) whole ∙ formed) in
    let all : sum_by f (take l.word-index t) ≡ sum_by f t = ap (sum_by f) whole in
    cc
