-- Numbers are within their bounds.
use Rattle.std.proofs.Common.{◌≡◌, ◌≤◌, ◌<◌, ◌^◌, ◌==◌, ◌&&◌, ℕ, Bool, true, false, List, [], ◌∷◌, length, nat_le, Option, Some, None, Ok, Err, if◌then◌else◌, refl, subst, arith}
use Rattle.std.proofs.lemmas.Bool.Decides.{nat_tests}
use Rattle.serde_json.specs.Data.{Num, unsigned, negative, float}
use Rattle.mesh_base.specs.Numeral.{at_most}
use Rattle.mesh_base.proofs.Numbers.{at_most_some}
use Rattle.k8s_meta.specs.Amounts.{duration}
use Rattle.k8s_meta.specs.Duration.{duration_of, same_text, sum_of}
use Rattle.k8s_meta.specs.Given.{GivesOnly}
use Rattle.k8s_meta.specs.Lawful.{IsPort, IsShort, IsSomePort}
use Rattle.k8s_meta.specs.Runs.{items}
use Rattle.k8s_meta.specs.Scalars.{number, whole}
use Rattle.k8s_meta.specs.Words.{optional}
use Rattle.k8s_meta.specs.declared.fault.ReadFault.TheVariants as faults
use Rattle.k8s_meta.specs.declared.fault.What.TheVariants as what
use Rattle.k8s_meta.proofs.Given.{after, optional_gives, same_value, valid_value, weaker}

module _ (at : List ℕ) (low high : ℕ) where
  within : (n m : ℕ) (b : Bool) → (nat_le low n && nat_le n high) ≡ b → (if b then Ok n else Err (faults.BadValue at what.Range)) ≡ Ok m → m ≤ high
  within n m true is e = subst (λ k. k ≤ high) (same_value n m e) (grind (arith, nat_tests))
  within n m false is e = absurd cc

  whole_within : (n : Num) (m : ℕ) → whole at low high n ≡ Ok m → m ≤ high
  whole_within (unsigned n) m e = within n m (nat_le low n && nat_le n high) refl e
  whole_within (negative z) m e = absurd cc
  whole_within (float x) m e = absurd cc

pub number_gives : (low high : ℕ) → GivesOnly (λ (n : ℕ). n ≤ high) (number low high)
unfolding number
number_gives low high s = after (λ (n : ℕ). n ≤ high) _ _ (λ n _. whole_within s.at low high n)

pub port_gives : GivesOnly IsPort (number 1 65535)
port_gives = weaker (λ (n : ℕ). n ≤ 65535) IsPort (number 1 65535) (λ n le. omega arith) (number_gives 1 65535)

pub some_port_gives : GivesOnly IsSomePort (optional (number 1 65535))
some_port_gives = optional_gives IsSomePort (number 1 65535) tt port_gives

-- ---- times

short_sum : (o : Option ℕ) (n : ℕ) → at_most 9223372036854775807 o ≡ Some n → n < 2 ^ 63
short_sum o n e = let h = (at_most_some 9223372036854775807 o n e).1 in omega (arith, h)

short_text : (t : List ℕ) (n : ℕ) → duration_of t ≡ Some n → n < 2 ^ 63
unfolding duration_of
short_text t n e = cases (length t == 0) (same_text t (48 ∷ [])) e
  where
    cases : (a b : Bool) → (if a then None else (if b then Some 0 else at_most 9223372036854775807 (sum_of (items t)))) ≡ Some n → n < 2 ^ 63
    cases true b e = absurd cc
    cases false true e = let zero : 0 ≡ n = cc in omega (arith, zero)
    cases false false e = short_sum (sum_of (items t)) n e

pub short_duration : GivesOnly (λ (n : ℕ). n < 2 ^ 63) duration
unfolding duration
short_duration s = after (λ (n : ℕ). n < 2 ^ 63) _ _ (λ t _ n e. short_text t n (valid_value s.at what.Duration (duration_of t) n e))

pub short_timeout : GivesOnly IsShort (optional duration)
short_timeout = optional_gives IsShort duration tt short_duration
