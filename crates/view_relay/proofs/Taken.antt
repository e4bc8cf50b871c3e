-- A stream at a place takes a message.
use Rattle.std.proofs.Common.{◌≡◌, ◌<◌, ℕ, zero, suc, List, [], ◌∷◌, ◌++◌, length, get_or, take, drop, slice_set, Some, None, Ok, Err, refl, sym, ap, ◌∙◌, arith, eqb}
use Rattle.std.specs.Prelude.{Result, OnOk}
use Rattle.std.specs.List.{position_from}
use Rattle.mesh_base.specs.declared.memory.Memory.{Memory}
use Rattle.view_types.specs.declared.message.Message.{Message}
use Rattle.feed_history.specs.Ids.{StandsAt, in_place}
use Rattle.feed_history.proofs.Placed.{placed, stays}
use Rattle.view_relay.specs.Relays.{Carried, one_more, with_message}

set_is : {X : Type 0} (xs : List X) (at : ℕ) (v : X) → at < length xs → slice_set xs at v ≡ take at xs ++ (v ∷ drop (suc at) xs)
set_is [] at v within = absurd (omega (arith, within))
set_is (x ∷ xs) zero v within = refl
set_is (x ∷ xs) (suc at) v within = ap (λ rest. x ∷ rest) (set_is xs at v (omega (arith, within)))

abbrev id_in : Carried → ℕ
id_in stream = stream.id

module _ (message : Message) (id : ℕ) (streams : List Carried) where
  taken_there : (at : ℕ) (default new : Carried) → Some at ≡ position_from (λ stream. eqb (id_in stream) id) 0 streams → new ≡ with_message message (get_or streams at default)
      → slice_set streams at new ≡ in_place id_in id (one_more message) streams
  taken_there at default new is same =
      let stands : StandsAt id_in id streams at = placed id_in id streams (Some at) is in
      set_is streams at new stands.within
      ∙ ap (λ (one : Carried). take at streams ++ (one ∷ drop (suc at) streams)) (same ∙ ap (with_message message) (stands.read default))
      ∙ sym (stands.giving (one_more message))

  pub taken : (at : ℕ) (default new : Carried) (result : Result (Unit {0}) Memory) → Some at ≡ position_from (λ stream. eqb (id_in stream) id) 0 streams
      → OnOk result (new ≡ with_message message (get_or streams at default)) → OnOk result (slice_set streams at new ≡ in_place id_in id (one_more message) streams)
  taken at default new (Ok done) is same = taken_there at default new is same
  taken at default new (Err e) is same = tt

  pub not_taken : None ≡ position_from (λ stream. eqb (id_in stream) id) 0 streams → streams ≡ in_place id_in id (one_more message) streams
  not_taken is = sym (stays id_in id (one_more message) streams (placed id_in id streams None is))
