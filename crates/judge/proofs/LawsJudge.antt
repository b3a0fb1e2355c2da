-- A choice by values, as the judges make it. Assumes nothing.
use mathlib.Core.Bool.{Bool, true, false, not, ◌&&◌, ◌||◌}
use mathlib.Core.Path.{◌≡◌, refl}
use Rattle.std.specs.Prelude.{if◌then◌else◌}

pub choice_by_values : (t a b : Bool) → (t && a || not t && b) ≡ (if t then a else b)
choice_by_values true true b = refl
choice_by_values true false b = refl
choice_by_values false a b = refl

-- the same behind two other tests
pub late_by_values : (p q t a b : Bool) → (p || q || t && a || not t && b) ≡ (p || q || (if t then a else b))
late_by_values true q t a b = refl
late_by_values false true t a b = refl
late_by_values false false t a b = choice_by_values t a b
