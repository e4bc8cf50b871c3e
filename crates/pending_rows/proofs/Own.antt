-- Rows that stand at their own addresses, and addresses in order.
use Rattle.std.proofs.Common.{◌≡◌, ◌&&◌, ◌∷◌, ℕ, Bool, true, false, List, [], take, drop, Option, Some, None, refl, sym, ap, subst}
use lib.Dec.{T}
use Rattle.std.specs.Cmp.{tied_itself}
use Rattle.std.specs.List.{All}
use Rattle.std.specs.List as list
use Rattle.std.specs.Option.{IfSome}
use Rattle.std.specs.Ordering.{is_eq}
use Rattle.std.proofs.lemmas.List.Elements.{All-append, All-cons, All-drop, All-head, All-nil, All-tail, All-take, All-weaker}
use Rattle.view_rules.proofs.Entries.{first, second}
use Rattle.view_rules.proofs.KeptOnce.{keys_rise}
use Rattle.view_rules.proofs.Pairs.{pairs_exact, pairs_total}
use Rattle.view_rules.proofs.RowMaps.{Pair, at_pair}
use Rattle.view_rules.specs.Batch.{same_pair}
use Rattle.view_rules.specs.Endpoints.{pair_of}
use Rattle.view_types.specs.declared.endpoint.EndpointRow.{EndpointRow}
use Rattle.view_diff.specs.Earlier.{IsByAddress, Stood, address}
use Rattle.pending_rows.specs.Pending.{AreKeyed, AreOwn, IsOwn, is_at}

both : (a b : Bool) → T a → T b → T (a && b)
both true b p q = q
both false b p q = absurd p

told_true : (b : Bool) → T b → b ≡ true
told_true true t = refl
told_true false t = absurd t

all_own : (ss : List Stood) → AreOwn ss → All IsOwn ss
all_own [] h = All-nil IsOwn
all_own (s ∷ ss) h = All-cons IsOwn s ss (first _ _ h) (all_own ss (second _ _ h))

own_all : (ss : List Stood) → All IsOwn ss → AreOwn ss
own_all [] h = tt
own_all (s ∷ ss) h = both _ _ (All-head IsOwn s ss h) (own_all ss (All-tail IsOwn s ss h))

pub own_first : (s : Stood) (ss : List Stood) → AreOwn (s ∷ ss) → IsOwn s
own_first s ss h = first _ _ h

pub own_rest : (s : Stood) (ss : List Stood) → AreOwn (s ∷ ss) → AreOwn ss
own_rest s ss h = second _ _ h

pub own_inserted : (ss : List Stood) (i : ℕ) (s : Stood) → AreOwn ss → IsOwn s → AreOwn (list.insert ss i s)
own_inserted ss i s h own =
    own_all (list.insert ss i s)
    (All-append IsOwn (take i ss) (s ∷ drop i ss) (All-take IsOwn i ss (all_own ss h)) (All-cons IsOwn s (drop i ss) own (All-drop IsOwn i ss (all_own ss h))))

stands : (pair : Pair) (o : Option EndpointRow) → T (is_at pair o) → IfSome o (λ row. pair_of row ≡ pair)
stands pair None h = tt
stands pair (Some row) h = at_pair (pair_of row) pair (told_true _ h)

told_stands : (pair : Pair) (o : Option EndpointRow) → IfSome o (λ row. pair_of row ≡ pair) → T (is_at pair o)
told_stands pair None h = tt
told_stands pair (Some row) h = subst (λ (k : Pair). T (same_pair (pair_of row) k)) h (subst T (sym (ap is_eq (tied_itself pairs_total (pair_of row)))) tt)

pub by_address : (ss : List Stood) → AreKeyed ss → AreOwn ss → IsByAddress ss
by_address ss keyed own = record {
  rise = keys_rise pairs_total pairs_exact address ss keyed;
  own = All-weaker IsOwn (λ s. IfSome s.2 (λ row. pair_of row ≡ address s)) (λ s h. stands (address s) s.2 h) ss (all_own ss own);
}

pub are_own : (ss : List Stood) → IsByAddress ss → AreOwn ss
are_own ss is = own_all ss (All-weaker (λ s. IfSome s.2 (λ row. pair_of row ≡ address s)) IsOwn (λ s h. told_stands (address s) s.2 h) ss is.own)
