use Rattle.std.proofs.Common.{◌≡◌, length, sym, ap, ◌∙◌}
use Rattle.std.proofs.lemmas.List.Elements.{recursion_from_All}
use Rattle.view_types.specs.Objects.{kind_of}
use Rattle.object_store.specs.KindLists.{each}
use Rattle.object_store.proofs.KindLists.{count_is, good_as, of_kind_set, own_count, own_kind, relisted_is, set_ok}
use Rattle.object_store.proofs.objects.Objects.exchange.Goals as goal

pub overflow_sub-self-inside : goal.overflow_sub-self-inside
overflow_sub-self-inside c =
    let own = rw (← c.self.view_is) at c.of_kind.ensures.value in
    rw (c.len.ensures, own, c.self.invariant.1) (own_count each c.self.inside.of_kinds c.self.invariant.0 c.args.kind)

pub invariant_of-self : goal.invariant_of-self
invariant_of-self c =
    let good = good_as c.replace-before.new.dest c.args.items.items c.args.kind c.place_of.result (c.replace-before.ensures.after ∙ c.in_ok-items-in-Some.ensures) c.place_of.ensures.place c.requires.sorted (recursion_from_All (λ o. kind_of o ≡ c.args.kind) c.args.items.items c.requires.each) in
    let own = rw (← c.self.view_is) at c.of_kind.ensures.value in
    let count = c.len-2.ensures ∙ c.args.items.ok.0 ∙ sym (ap length (c.replace-before.ensures.after ∙ c.in_ok-items-in-Some.ensures)) in (
      set_ok each c.self.inside.of_kinds c.self.invariant.0 c.args.kind c.place_of.result c.index-self-place_of.result c.place_of.ensures.place c.place_of.ensures.bound c.replace-before.new.dest good.0,
      count_is each c.self.inside.of_kinds c.self.invariant.0 c.args.kind c.place_of.result c.index-self-place_of.result c.place_of.ensures.place c.place_of.ensures.bound c.replace-before.new.dest good.0 c.in-Some.held c.self.inside.held c.len.result c.len-2.result c.in-Some.ensures.1 c.self.invariant.1 (c.len.ensures ∙ ap length own) count,
    )

pub invariant_of-self-in-Some : goal.invariant_of-self-in-Some
invariant_of-self-in-Some c =
    let good = good_as c.replace-before.new.dest c.args.items.items c.args.kind c.place_of.result (c.replace-before.ensures.after ∙ c.in_ok-items-in-Some.ensures) c.place_of.ensures.place c.requires.sorted (recursion_from_All (λ o. kind_of o ≡ c.args.kind) c.args.items.items c.requires.each) in
    let own = rw (← c.self.view_is) at c.of_kind.ensures.value in
    let count = c.len-2.ensures ∙ c.args.items.ok.0 ∙ sym (ap length (c.replace-before.ensures.after ∙ c.in_ok-items-in-Some.ensures)) in (
      set_ok each c.self.inside.of_kinds c.self.invariant.0 c.args.kind c.place_of.result c.index-self-place_of.result c.place_of.ensures.place c.place_of.ensures.bound c.replace-before.new.dest good.0,
      count_is each c.self.inside.of_kinds c.self.invariant.0 c.args.kind c.place_of.result c.index-self-place_of.result c.place_of.ensures.place c.place_of.ensures.bound c.replace-before.new.dest good.0 c.in-Some.held c.self.inside.held c.len.result c.len-2.result c.in-Some.ensures.1 c.self.invariant.1 (c.len.ensures ∙ ap length own) count,
    )

pub returns-in_ok-into_vec-in-Some-clause-ok : goal.returns-in_ok-into_vec-in-Some-clause-ok
returns-in_ok-into_vec-in-Some-clause-ok c =
    let is = c.replace-before.ensures.after ∙ c.in_ok-items-in-Some.ensures in
    let good = good_as c.replace-before.new.dest c.args.items.items c.args.kind c.place_of.result (c.replace-before.ensures.after ∙ c.in_ok-items-in-Some.ensures) c.place_of.ensures.place c.requires.sorted (recursion_from_All (λ o. kind_of o ≡ c.args.kind) c.args.items.items c.requires.each) in
    rw (← c.self.view_is, ← is) (relisted_is each c.self.inside.of_kinds c.self.invariant.0 c.args.kind c.place_of.result c.index-self-place_of.result c.place_of.ensures.place c.place_of.ensures.bound c.replace-before.new.dest good.0 good.1)

pub returns-in_ok-into_vec-in-Some-clause-before : goal.returns-in_ok-into_vec-in-Some-clause-before
returns-in_ok-into_vec-in-Some-clause-before c =
    rw (c.from_vec-in-Some.ensures, ← c.self.view_is) (c.in_ok-into_vec-in-Some.ensures ∙ c.replace-before.ensures.value ∙ sym (own_kind each c.self.inside.of_kinds c.self.invariant.0 c.args.kind c.place_of.result c.index-self-place_of.result c.place_of.ensures.place c.place_of.ensures.bound))

pub returns-in_ok-into_vec-in-Some-clause-now : goal.returns-in_ok-into_vec-in-Some-clause-now
returns-in_ok-into_vec-in-Some-clause-now c =
    let is = c.replace-before.ensures.after ∙ c.in_ok-items-in-Some.ensures in
    let good = good_as c.replace-before.new.dest c.args.items.items c.args.kind c.place_of.result (c.replace-before.ensures.after ∙ c.in_ok-items-in-Some.ensures) c.place_of.ensures.place c.requires.sorted (recursion_from_All (λ o. kind_of o ≡ c.args.kind) c.args.items.items c.requires.each) in
    of_kind_set each c.self.inside.of_kinds c.self.invariant.0 c.args.kind c.place_of.result c.index-self-place_of.result c.place_of.ensures.place c.place_of.ensures.bound c.replace-before.new.dest good.0 ∙ is
