use Rattle.placing.proofs.Built.{lays_all, touched_opens, lays_short, whole_short}
use Rattle.placing.proofs.build_short.Goals as goal

pub merge_within-requires : goal.merge_within-requires
merge_within-requires c = (c.requires, c.requires, touched_opens _ _ c.args.patch.inside c.touched-window.ensures)

pub returns-then-patch-eq64 : goal.returns-then-patch-eq64
returns-then-patch-eq64 c =
    let a = c.args in
    let q = c.requires in
    lays_short a.p a.to a.memory.now a.patch.offset a.patch.bytes.now c.touched-window.result a.patch.inside c.touched-window.ensures c.if-window-p.false
    (whole_short a.to a.memory.now a.patch.offset a.patch.bytes.now q a.patch.inside c.if-patch-eq64.true c.lay_whole.ensures)

pub returns : goal.returns
returns c =
    let a = c.args in
    lays_short a.p a.to a.memory.now a.patch.offset a.patch.bytes.now c.touched-window.result a.patch.inside c.touched-window.ensures c.if-window-p.false
    (lays_all 8 a.to _ c.all_words-all.ensures c.merge_within-2.ensures)
