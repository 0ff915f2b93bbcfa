use Rattle.rules.specs.Numbers as N
use Rattle.std.proofs.Common.{◌*◌, eq-eqb, ne_eqb}
use Rattle.checks.proofs.numbers.inexact.Goals as goal

pub returns-then-memory-words : goal.returns-then-memory-words
unfolding N.inexact
returns-then-memory-words c =
    let a = c.args in
    let w = c.memory_words-words.ensures in
    λ board l. rw (l.memory, ← w, ne_eqb a.memory (8 * c.memory_words-words.result) c.if-memory-words.true)

pub returns-then-cache-slots : goal.returns-then-cache-slots
unfolding N.inexact
returns-then-cache-slots c =
    let a = c.args in
    let w = c.memory_words-words.ensures in
    λ board l. rw (l.memory, l.cache, ← w, eq-eqb a.memory (8 * c.memory_words-words.result) c.if-memory-words.false, ne_eqb a.cache (64 * a.g.slots) c.if-cache-slots.true)

pub returns-then-table-slots : goal.returns-then-table-slots
unfolding N.inexact
returns-then-table-slots c =
    let a = c.args in
    let w = c.memory_words-words.ensures in
    λ board l. rw (l.memory, l.cache, l.table, ← w, eq-eqb a.memory (8 * c.memory_words-words.result) c.if-memory-words.false, eq-eqb a.cache (64 * a.g.slots) c.if-cache-slots.false, ne_eqb a.table a.g.slots c.if-table-slots.true)

pub returns : goal.returns
unfolding N.inexact
returns c =
    let a = c.args in
    let w = c.memory_words-words.ensures in
    λ board l. rw (l.memory, l.cache, l.table, ← w, eq-eqb a.memory (8 * c.memory_words-words.result) c.if-memory-words.false, eq-eqb a.cache (64 * a.g.slots) c.if-cache-slots.false, eq-eqb a.table a.g.slots c.if-table-slots.false)
