-- The messages of rows that stand at keys, folded one by one.
use Rattle.std.proofs.Common.{◌≡◌, ℕ, zero, suc, ◌≤◌, Bool, true, List, [], ◌∷◌, ◌++◌, map, take, drop, length, Option, Some, refl, ap, ◌∙◌, arith}
use Rattle.std.specs.Cmp.{IsTotalOrder}
use Rattle.std.specs.FinMap.{FinMap, IsAntisymmetric}
use Rattle.std.specs.declared.cmp.Ordering.{Ordering}
use Rattle.std.proofs.lemmas.List.{length-drop, take-append-drop}
use Rattle.view_rules.specs.Batch.{in_pieces, messages_of, pieces_up_to}
use Rattle.view_rules.specs.ByKey.{put_all, take_all}
use Rattle.view_rules.specs.Fold.{folded_onto, shown_after}
use Rattle.view_types.specs.declared.message.Message.{Message}
use Rattle.view_types.specs.declared.view.View.{View}
use Rattle.view_rules.proofs.KeyMaps as maps
use Rattle.view_rules.proofs.KeyMaps.{own_put, own_taken, put_append, take_append}

-- whether a message came that puts rows, or something was told before
abbrev pub told : {X : Type 0} → Bool → List (List X) → Bool
told before [] = before
told before (rows ∷ more) = true

module _ {X K : Type 0} {R : K → K → Ordering} (o : IsTotalOrder R) (exact : IsAntisymmetric R) (key : X → K) where
  abbrev IsOwn : FinMap R X → Type 0
  IsOwn = maps.IsOwn o exact key

  puts : List (List X) → FinMap R X → FinMap R X
  puts [] m = m
  puts (rows ∷ more) m = puts more (put_all R key rows m)

  takes : List (List K) → FinMap R X → FinMap R X
  takes [] m = m
  takes (ks ∷ more) m = takes more (take_all R key ks m)

  own_puts : (pieces : List (List X)) (m : FinMap R X) → IsOwn m → IsOwn (puts pieces m)
  unfolding puts
  own_puts [] m own = own
  own_puts (rows ∷ pieces) m own = own_puts pieces (put_all R key rows m) (own_put o exact key rows m own)

  puts_all : (n size : ℕ) (rows : List X) (m : FinMap R X) → 1 ≤ size → length rows ≤ n → puts (pieces_up_to n size rows) m ≡ put_all R key rows m
  unfolding puts
  puts_all zero size [] m one few = refl
  puts_all zero size (r ∷ rs) m one few = absurd (omega arith)
  puts_all (suc n) size [] m one few = refl
  puts_all (suc n) size (r ∷ rs) m one few =
      let rest = length-drop size (r ∷ rs) in
      puts_all n size (drop size (r ∷ rs)) (put_all R key (take size (r ∷ rs)) m) one (omega arith)
      ∙ put_append o exact key (take size (r ∷ rs)) (drop size (r ∷ rs)) m ∙ ap (λ rows. put_all R key rows m) (take-append-drop size (r ∷ rs))

  takes_all : (n size : ℕ) (ks : List K) (m : FinMap R X) → 1 ≤ size → length ks ≤ n → takes (pieces_up_to n size ks) m ≡ take_all R key ks m
  unfolding takes
  takes_all zero size [] m one few = refl
  takes_all zero size (k ∷ ks) m one few = absurd (omega arith)
  takes_all (suc n) size [] m one few = refl
  takes_all (suc n) size (k ∷ ks) m one few =
      let rest = length-drop size (k ∷ ks) in
      takes_all n size (drop size (k ∷ ks)) (take_all R key (take size (k ∷ ks)) m) one (omega arith)
      ∙ take_append o exact key (take size (k ∷ ks)) (drop size (k ∷ ks)) m ∙ ap (λ ks. take_all R key ks m) (take-append-drop size (k ∷ ks))

  -- what is shown of rows, whether or not something was told, and what the two messages change of it
  module _ (show : Bool → FinMap R X → Option View) (put : List X → Message) (gone : List K → Message)
      (put_one : (before : Bool) (m : FinMap R X) (rows : List X) → IsOwn m → Some (shown_after (show before m) (put rows)) ≡ show true (put_all R key rows m))
      (take_one : (before : Bool) (m : FinMap R X) (ks : List K) → IsOwn m → Some (shown_after (show before m) (gone ks)) ≡ show before (take_all R key ks m)) where
    told_true : (pieces : List (List X)) → told true pieces ≡ true
    told_true [] = refl
    told_true (rows ∷ more) = refl

    adds : (before : Bool) (pieces : List (List X)) (m : FinMap R X) (more : List Message) → IsOwn m → folded_onto (show before m) (map put pieces ++ more) ≡ folded_onto (show (told before pieces) (puts pieces m)) more
    unfolding puts
    adds before [] m more own = refl
    adds before (rows ∷ pieces) m more own =
        ap (λ shown. folded_onto shown (map put pieces ++ more)) (put_one before m rows own)
        ∙ adds true pieces (put_all R key rows m) more (own_put o exact key rows m own)
        ∙ ap (λ b. folded_onto (show b (puts pieces (put_all R key rows m))) more) (told_true pieces)

    removes : (before : Bool) (pieces : List (List K)) (m : FinMap R X) → IsOwn m → folded_onto (show before m) (map gone pieces) ≡ show before (takes pieces m)
    unfolding takes
    removes before [] m own = refl
    removes before (ks ∷ pieces) m own =
        ap (λ shown. folded_onto shown (map gone pieces)) (take_one before m ks own)
        ∙ removes before pieces (take_all R key ks m) (own_taken o exact key ks m own)

    -- all rows are put, and all keys taken out
    pub messages_shown : (before : Bool) (size : ℕ) (rows : List X) (ks : List K) (m : FinMap R X) → 1 ≤ size → IsOwn m
        → folded_onto (show before m) (messages_of put gone size rows ks) ≡ show (told before (in_pieces size rows)) (take_all R key ks (put_all R key rows m))
    messages_shown before size rows ks m one own =
        adds before (in_pieces size rows) m (map gone (in_pieces size ks)) own
        ∙ removes (told before (in_pieces size rows)) (in_pieces size ks) (puts (in_pieces size rows) m) (own_puts (in_pieces size rows) m own)
        ∙ ap (λ n. show (told before (in_pieces size rows)) (takes (in_pieces size ks) n)) (puts_all (length rows) size rows m one (omega arith))
        ∙ ap (show (told before (in_pieces size rows))) (takes_all (length ks) size ks (put_all R key rows m) one (omega arith))
