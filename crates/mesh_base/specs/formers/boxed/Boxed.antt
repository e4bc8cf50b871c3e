-- How a `Boxed` holds its value, which lets a type contain itself through a box.
use mathlib.Core.Path.{refl}
use mathlib.Core.Former.{Former, this, const, pair, via}
use base.Stored.{gnil}
use base.Fml.{ftrue}
use denote.RattleType.{RattleType}
use denote.Memory.{part_of}
use denote.RawPtr.{Ptr}
use denote.Sharing.{nothing}
use denote.HoleLaws.{Alike}
use denote.HolePlaces.{Recodes, struct_places, laid, one_value}
use denote.Hole.Fix.{over}
use denote.Param.Weighed.{Weighed}
use denote.Model.Placed.{view_places}
use Rattle.std.specs.declared.boxed.Box.{Box}
use Rattle.std.specs.contracts.boxed.Box as std_box
use Rattle.std.specs.declared.alloc.Global.{Global}
use Rattle.std.specs.contracts.alloc.Global as heap
use Rattle.std.specs.contracts.impls.GlobalAllocator.TheImpl.{ghosts}
use Rattle.mesh_base.specs.declared.boxed.Boxed.TheInside.{Inside}
use Rattle.mesh_base.specs.declared.boxed.Boxed.TheView.{view, invariant}
use Rattle.mesh_base.specs.contracts.boxed.Boxed as contract
use Rattle.mesh_base.specs.contracts.boxed.Boxed.TheInside as inside

-- the model of a `Boxed` is its value, and it holds just that
abbrev pub the_former : Former {0} → Former {0}
the_former held = held

abbrev pub the_weighed : {held : Former {0}} → Weighed held → Weighed (the_former held)
the_weighed weight = weight

-- the one field, a `Box`: a pointer, the allocator and the value
abbrev box_field : Former {0}
box_field = via (pair (const (Ptr × Global)) this) Inside (λ X fields. ((fields.inner.ptr, fields.inner.alloc), fields.inner.value))
    (λ X v. record { inner = record { ptr = v.0.0; alloc = v.0.1; value = v.1 } }) (λ X fields. refl) (λ X v. refl)

abbrev replaced : {X Y : Type 0} → Box X Global → Y → Box Y Global
replaced b y = record { ptr = b.ptr; alloc = b.alloc; value = y }

abbrev boxes : RattleType → RattleType
boxes R = std_box.the_row R heap.the_row ghosts

module _ (R S : RattleType) (h : R.Denot → S.Denot) where
  box_places : Alike R S h → Alike (boxes R) (boxes S) (λ b. replaced b (h b.value))
  unfolding part_of
  box_places alike = record {
    mir_same = λ i. (boxes (one_value R (alike.mir_same i) (λ _. ftrue) (λ _ _. nothing) gnil)).mir;
    own_same = λ b i. (boxes (one_value R (alike.mir_same i) (alike.own_same b.value i) (alike.shr_same b.value i) gnil)).own_val (replaced b tt);
    shr_same = λ b i. (boxes (one_value R (alike.mir_same i) (alike.own_same b.value i) (alike.shr_same b.value i) gnil)).shr_at (replaced b tt);
  }

  pub the_places : Alike R S h → Alike (contract.the_row R) (contract.the_row S) ((the_former this).map R.Denot S.Denot h)
  the_places alike = view_places box_field this view (λ X Y k u. refl) (λ X u. refl) R.Denot S.Denot h (contract.the_row R).coded (contract.the_row S).coded
      (invariant R.Denot) (invariant S.Denot) (λ u p q. refl) (λ u p q. refl) (λ u e. tt) (λ u e. tt)
      (over (inside.the_row R)) (over (inside.the_row S))
      (struct_places (inside.the_type R) (inside.the_type S) ((λ b. replaced b (h b.value)), tt) _ (λ d. refl) refl (laid _ _ _ (box_places alike), tt))

  pub the_codes_placed : Recodes R S h → Recodes (contract.the_row R) (contract.the_row S) ((the_former this).map R.Denot S.Denot h)
  the_codes_placed recodes d = recodes d
