-- `judge::header` meets its contract: the tests come in the table's order. Assumes nothing.
use Prim.Native.Nat.{◌+◌, ◌≤◌, ◌<◌}
use mathlib.Core.Bool.{true, false}
use mathlib.Core.Path.{◌≡◌, sym, ◌∙◌}
use lib.Dec.{leb, ltb}
use native.Mathlib.Omega.{arith}
use borrow.Author.Tests.{lt-ltb, le-ltb, le-leb, lt-leb}
use Rattle.rules.specs.Book.{opening, closing}
use Rattle.rules.specs.Refusals.{first_of, is_close, untimely, header_refusals}
use Rattle.judge.specs.Judge.{book_holding}
use Rattle.judge.proofs.LawsJudge.{late_by_values}
use Rattle.judge.proofs.header.Goals as goal

pub returns-then-seen : goal.returns-then-seen
unfolding first_of header_refusals
returns-then-seen c =
    let a = c.args in
    rw (le-leb a.c.number.0 a.h.last.0 c.if-seen.true)

pub returns-then-ahead : goal.returns-then-ahead
unfolding first_of header_refusals
returns-then-ahead c =
    let a = c.args in
    let over : a.h.last.0 + 1 < a.c.number.0 = omega arith in
    rw (lt-leb _ _ c.if-seen.false, lt-ltb _ _ over)

pub returns-then-h : goal.returns-then-h
unfolding first_of header_refusals
returns-then-h c =
    let a = c.args in
    let next : a.c.number.0 ≤ a.h.last.0 + 1 = omega arith in
    rw (lt-leb _ _ c.if-seen.false, le-ltb _ _ next, c.if-h.true)

pub returns-then-time-h : goal.returns-then-time-h
unfolding first_of header_refusals
returns-then-time-h c =
    let a = c.args in
    let cl : c.is_close-closing.result ≡ is_close a.c.body = c.is_close-closing.ensures in
    let next : a.c.number.0 ≤ a.h.last.0 + 1 = omega arith in
    let late : untimely (book_holding a.h) a.c ≡ true =
    sym (late_by_values (ltb a.c.time a.h.time) (ltb a.c.time opening) (is_close a.c.body) (ltb closing a.c.time) (leb closing a.c.time))
    ∙ (rw cl at c.if-time-h.true) in
    rw (lt-leb _ _ c.if-seen.false, le-ltb _ _ next, c.if-h.false, late)

pub returns : goal.returns
unfolding first_of header_refusals
returns c =
    let a = c.args in
    let cl : c.is_close-closing.result ≡ is_close a.c.body = c.is_close-closing.ensures in
    let next : a.c.number.0 ≤ a.h.last.0 + 1 = omega arith in
    let timely : untimely (book_holding a.h) a.c ≡ false =
    sym (late_by_values (ltb a.c.time a.h.time) (ltb a.c.time opening) (is_close a.c.body) (ltb closing a.c.time) (leb closing a.c.time))
    ∙ (rw cl at c.if-time-h.false) in
    rw (lt-leb _ _ c.if-seen.false, le-ltb _ _ next, c.if-h.false, timely)
