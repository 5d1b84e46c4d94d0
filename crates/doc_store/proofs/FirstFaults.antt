-- The first of some faults, list by list.
use Rattle.std.proofs.Common.{◌≡◌, ℕ, Bool, true, false, cond, List, [], ◌∷◌, ◌++◌, Option, Some, None, refl, sym, ap, arith, ◌∙◌}
use Rattle.std.specs.Prelude.{nat_lt, ◌==◌, ◌&&◌, ◌||◌}
use Rattle.doc_store.specs.declared.first_fault.Fault.{Fault}
use Rattle.doc_store.specs.Faults.{rank, is_before, earlier_fault, first_fault, earlier}

-- a number before another, by two that are compared one after the other
abbrev before : ℕ → ℕ → ℕ → ℕ → Bool
before a r b s = nat_lt a b || (a == b && nat_lt r s)

before-trans : (a r b s c t : ℕ) → before a r b s ≡ true → before b s c t ≡ true → before a r c t ≡ true
before-trans a r b s c t one other = grind arith

pub before-not : (a r b s c t : ℕ) → before a r b s ≡ false → before b s c t ≡ false → before a r c t ≡ false
before-not a r b s c t one other = grind arith

earlier_fault-cases : (x f g : Fault) (gf fx gx : Bool) → is_before g f ≡ gf → is_before f x ≡ fx → is_before g x ≡ gx →
    earlier_fault x (cond gf (Some g) (Some f)) ≡ earlier (cond fx (Some f) (Some x)) (Some g)
earlier_fault-cases x f g true true gx egf efx egx = rw (egf, before-trans g.at (rank g.check) f.at (rank f.check) x.at (rank x.check) egf efx) refl
earlier_fault-cases x f g true false gx egf efx egx = refl
earlier_fault-cases x f g false true gx egf efx egx = rw (egf, efx) refl
earlier_fault-cases x f g false false gx egf efx egx = rw (efx, before-not g.at (rank g.check) f.at (rank f.check) x.at (rank x.check) egf efx) refl

earlier_fault-earlier : (x : Fault) (a b : Option Fault) → earlier_fault x (earlier a b) ≡ earlier (earlier_fault x a) b
earlier_fault-earlier x None b = refl
earlier_fault-earlier x (Some f) None = alone (is_before f x) where
  alone : (fx : Bool) → cond fx (Some f) (Some x) ≡ earlier (cond fx (Some f) (Some x)) None
  alone true = refl
  alone false = refl
earlier_fault-earlier x (Some f) (Some g) = earlier_fault-cases x f g (is_before g f) (is_before f x) (is_before g x) refl refl refl

-- the first of two lists one after another
pub first_joined : (xs ys : List Fault) → first_fault (xs ++ ys) ≡ earlier (first_fault xs) (first_fault ys)
first_joined [] ys = refl
first_joined (x ∷ xs) ys = ap (earlier_fault x) (first_joined xs ys) ∙ earlier_fault-earlier x (first_fault xs) (first_fault ys)

pub earlier_none : (a : Option Fault) → earlier a None ≡ a
earlier_none None = refl
earlier_none (Some f) = refl

earlier_assoc : (a b c : Option Fault) → earlier (earlier a b) c ≡ earlier a (earlier b c)
earlier_assoc None b c = refl
earlier_assoc (Some f) b c = sym (earlier_fault-earlier f b c)

-- the faults of one more, after what was found
pub one_more : (found : Option Fault) (xs ys : List Fault) → earlier (earlier found (first_fault xs)) (first_fault ys) ≡ earlier found (first_fault (xs ++ ys))
one_more found xs ys = earlier_assoc found (first_fault xs) (first_fault ys) ∙ ap (earlier found) (sym (first_joined xs ys))
