-- Bytes that are written before others: the items of a repeated field from the last to the first, and heads of messages.
use Rattle.std.proofs.Common.{◌≡◌, ℕ, suc, ◌+◌, ◌*◌, ◌<◌, List, ◌∷◌, ◌++◌, drop, get_or, length, refl, sym, ap, ◌∙◌, append_assoc}
use Rattle.std.proofs.Math.Seq.{drop-cons}
use Rattle.proto_wire.specs.declared.record.Rec.{Rec}
use Rattle.proto_wire.specs.Wire.{spelled, spelling, varint}
use Rattle.proto_wire.proofs.Spellings.{spelling-cons}
use Rattle.proto_wire.specs.declared.record.WireValue.TheVariants.{Chunk}

-- Of records that are listed by `all`, an item's is put before those of the items after it.
pub one_more : {X : Type 0} (all : List X → List Rec) (f : X → Rec) → ((x : X) (xs : List X) → all (x ∷ xs) ≡ f x ∷ all xs) → (xs : List X) (x : X) (i j : ℕ) (new old rest : List ℕ) → i < length xs → x ≡ get_or xs i x → j ≡ suc i
    → old ≡ spelling (all (drop j xs)) ++ rest → new ≡ spelled (f x) ++ old → new ≡ spelling (all (drop i xs)) ++ rest
one_more all f lists xs x i j new old rest lt here next so put =
    let after = drop (suc i) xs in
    let split : drop i xs ≡ x ∷ after = rw (drop-cons xs i x lt, ← here) refl in
    let later : old ≡ spelling (all after) ++ rest = rw next at so in
    let listed : spelling (all (drop i xs)) ≡ spelled (f x) ++ spelling (all after) = ap (λ xs. spelling (all xs)) split ∙ ap spelling (lists x after) ∙ spelling-cons (f x) (all after) in
    put ∙ ap (λ bytes. spelled (f x) ++ bytes) later ∙ sym (append_assoc (spelled (f x)) (spelling (all after)) rest) ∙ ap (λ bytes. bytes ++ rest) (sym listed)

pub head_put : (n len : ℕ) (body rest old mid new : List ℕ) → new ≡ varint (n * 8 + 2) ++ mid → mid ≡ varint len ++ old → old ≡ body ++ rest → len ≡ length body → new ≡ spelled (record { number = n; value = Chunk body }) ++ rest
unfolding spelled
head_put n len body rest old mid new tag short is exact =
    let head = varint (n * 8 + 2) in
    let len_bytes = varint (length body) in
    tag ∙ ap (λ bytes. head ++ bytes) (rw (short, is, exact) (sym (append_assoc len_bytes body rest))) ∙ sym (append_assoc head (len_bytes ++ body) rest)
