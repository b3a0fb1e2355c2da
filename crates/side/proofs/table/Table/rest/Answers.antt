-- `side::table::Table::rest` meets its contract: the order goes in before the first that it ranks before. Assumes nothing.
use native.Mathlib.Omega.{arith}
use Rattle.rules.specs.Book.{ranks_before}
use Rattle.side.proofs.LawsPlaces.{first_within}
use Rattle.side.proofs.places.LawsPlaced.{insert_at_lem}
use Rattle.side.proofs.table.Table.rest.Goals as goal

pub insert-requires : goal.insert-requires
insert-requires c =
    let a = c.args in
    (omega (arith, c.place-at.ensures, first_within (ranks_before a.buying a.o) a.self.now), c.requires.room)

pub returns : goal.returns
returns c =
    let a = c.args in
    rw (c.insert.ensures, c.place-at.ensures) (insert_at_lem a.buying a.o a.self.now)
