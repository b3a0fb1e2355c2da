-- `side::ranks_before` meets its contract: the formula by values is the rule by cases. Assumes nothing.
use Rattle.side.proofs.LawsPlaces.{is_lt_nat_cmp, ranks_by_values}
use Rattle.side.proofs.ranks_before.Goals as goal

pub returns : goal.returns
returns c =
    let a = c.args in
    rw (
      c.earlier-stamped.ensures,
      c.lt.ensures,
      c.lt-2.ensures,
      c.eq.ensures,
      is_lt_nat_cmp a.y.price.0 a.x.price.0,
      is_lt_nat_cmp a.x.price.0 a.y.price.0,
    ) (ranks_by_values a.buying a.x a.y)
