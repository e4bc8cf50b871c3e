-- A filter keeps what it has when bits are added, also where it has the names of a map.
use Rattle.std.proofs.Common.{◌≡◌, ℕ, true, false, cond, List, Option, bit_and, bit_or, nat_eq, refl, sym, ap, ◌∙◌, arith}
use Rattle.std.proofs.lemmas.Nat.Bits.{bit_at_and, bit_at_or, same_from_bits}
use Rattle.std.specs.Int.{bit_at}
use Rattle.std.specs.Option.{is_some}
use Rattle.std.specs.Prelude.{min}
use Rattle.std.specs.Result.{OnErr, OnOk}
use Rattle.std.specs.declared.result.Result.{Result}
use Rattle.std.specs.declared.result.Result.TheVariants.{Ok, Err}
use Rattle.server_index.specs.Probes.{may_have, probe_of}
use Rattle.server_index.specs.declared.name_filter.NameFilter.{NameFilter}
use Rattle.server_index.proofs.Names.{one_name, same_name}

pub kept_bits : (bits probe added : ℕ) → bit_and bits probe ≡ probe → bit_and (bit_or bits added) probe ≡ probe
kept_bits bits probe added has =
    same_from_bits (bit_and (bit_or bits added) probe) probe (λ i.
    let before : min (bit_at bits i) (bit_at probe i) ≡ bit_at probe i = sym (bit_at_and bits probe i) ∙ ap (λ n. bit_at n i) has in
    let both = bit_at_and (bit_or bits added) probe i in
    let either = bit_at_or bits added i in
    omega (arith, before, both, either))

pub kept_probe : (bits probe added : ℕ) → nat_eq (bit_and bits probe) probe ≡ true → nat_eq (bit_and (bit_or bits added) probe) probe ≡ true
kept_probe bits probe added has =
    let before : bit_and bits probe ≡ probe = grind (arith, has) in
    let after = kept_bits bits probe added before in
    grind (arith, after)

-- ---- names of a map

pub either_way : {T E A B P : Type 0} (result : Result T E) → OnOk result A → OnErr result B → (A → P) → (B → P) → P
either_way (Ok value) ok err by_ok by_err = by_ok ok
either_way (Err fault) ok err by_ok by_err = by_err err

module _ {A : Type 0} (old new : List ℕ → Option A) (before after : NameFilter) (key : List ℕ) (value : Option A) where
  pub named_more : ((name : List ℕ) → new name ≡ cond (same_name key name) value (old name)) → ((name : List ℕ) → is_some (old name) ≡ true → may_have before (probe_of name) ≡ true)
      → ((probe : ℕ) → may_have before probe ≡ true → may_have after probe ≡ true) → may_have after (probe_of key) ≡ true
      → (name : List ℕ) → is_some (new name) ≡ true → may_have after (probe_of name) ≡ true
  named_more put named keeps has name there =
      elim (same_name key name) as (λ b. same_name key name ≡ b → is_some (cond b value (old name)) ≡ true → may_have after (probe_of name) ≡ true) [
        | true ↦ λ t h. ap (λ n. may_have after (probe_of n)) (sym (one_name key name t)) ∙ has
        | false ↦ λ t h. keeps (probe_of name) (named name h)
      ] refl (ap is_some (sym (put name)) ∙ there)
