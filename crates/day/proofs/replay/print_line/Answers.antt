-- `day::replay::print_line` meets its contract: a line that is no command is refused with 3, and a command prints the lines that it tells
-- or the line of its refusal. Assumes nothing.
use Rattle.day.proofs.replay.LawsPrinted.{shown_bad, shown_refusal, shown_done}
use Rattle.day.proofs.replay.print_line.Goals as goal

-- refusal 3
pub returns-in_default : goal.returns-in_default
returns-in_default c =
    let a = c.args in
    let w = c.write_refusal in
    shown_bad a.book.now a.reading a.out.now c.in_default.is c.from.result w.result w.new.out c.from.ensures w.ensures.value w.ensures.out_after

-- an accepted command
pub returns-in-Ok : goal.returns-in-Ok
returns-in-Ok c =
    let a = c.args in
    let p = c.apply in
    shown_done a.book.now a.reading a.out.now c.in-Some.c c.in-Some.is p.result p.new.book p.new.out
    p.ensures.value p.ensures.book_after p.ensures.out_after c.in-Ok.length c.in-Ok.is

-- a refused command
pub returns-in-Err : goal.returns-in-Err
returns-in-Err c =
    let a = c.args in
    let p = c.apply in
    let k = c.from-in-Err in
    let w = c.write_refusal-in-Err in
    shown_refusal a.book.now a.reading a.out.now c.in-Some.c c.in-Some.is p.result p.new.book p.new.out
    p.ensures.value p.ensures.book_after p.ensures.out_after c.in-Err.refusal c.in-Err.is
    k.result w.result w.new.out k.ensures w.ensures.value w.ensures.out_after
