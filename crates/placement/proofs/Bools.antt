-- Tests joined by `cond`: s and t is `cond s t false`, s or t is `cond s true t`. Assumes nothing.
use mathlib.Core.Path.{◌≡◌, refl}
use mathlib.Core.Bool.{Bool, true, false, cond}

pub or_none : (b : Bool) → cond b true false ≡ b
or_none true = refl
or_none false = refl

pub or-all : (b : Bool) → cond b true true ≡ true
or-all true = refl
or-all false = refl

pub and_none : (b : Bool) → cond b false false ≡ false
and_none true = refl
and_none false = refl

pub and_and : (a b c : Bool) → cond a (cond b c false) false ≡ cond (cond a b false) c false
and_and true b c = refl
and_and false b c = refl

-- a or (b or c) is (b or a) or c
pub or_or : (a b c : Bool) → cond a true (cond b true c) ≡ cond (cond b true a) true c
or_or true true c = refl
or_or true false c = refl
or_or false true c = refl
or_or false false c = refl
