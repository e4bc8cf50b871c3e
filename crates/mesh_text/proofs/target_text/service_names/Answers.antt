-- The names are those of the definition where the rest of the host is the zone.
use Rattle.std.proofs.Common.{◌≡◌, ◌∙◌, Bool, true, false, Some, None, ◌&&◌, cond, arith}
use Rattle.mesh_text.specs.Names.{is_dotless}
use Rattle.mesh_text.proofs.Hosts.{names_are}
use Rattle.mesh_text.proofs.target_text.service_names.Goals as goal

without : (p q r z : Bool) (X : Type 0) (x : X) → z ≡ r → z ≡ false → cond (p && q && r) (Some x) None ≡ None
without p q r z X x e no_zone = grind arith

with_all : (p q r z y w : Bool) (X : Type 0) (x : X) → z ≡ r → y ≡ p → w ≡ q → z ≡ true → y ≡ true → w ≡ true → cond (p && q && r) (Some x) None ≡ Some x
with_all p q r z y w X x e f g h i j = grind arith

pub returns-then-not-is_zone-clause-pair : goal.returns-then-not-is_zone-clause-pair
returns-then-not-is_zone-clause-pair c =
    names_are c.args.domain.now c.args.host.now c.in_ok-name.rest.now c.in_ok-name.name.now c.in_ok-ns.ns.now c.in_ok-ns.zone.now c.in_ok-name.ensures.cut c.in_ok-ns.ensures.cut
    ∙ without (is_dotless c.in_ok-name.name.now) (is_dotless c.in_ok-ns.ns.now) _ c.is_zone.result _ _ c.is_zone.ensures c.if-not-is_zone.true

pub returns-clause-pair : goal.returns-clause-pair
returns-clause-pair c =
    names_are c.args.domain.now c.args.host.now c.in_ok-name.rest.now c.in_ok-name.name.now c.in_ok-ns.ns.now c.in_ok-ns.zone.now c.in_ok-name.ensures.cut c.in_ok-ns.ensures.cut
    ∙ with_all (is_dotless c.in_ok-name.name.now) (is_dotless c.in_ok-ns.ns.now) _ c.is_zone.result c.is_dotless.result c.is_dotless-2.result _ _ c.is_zone.ensures c.is_dotless.ensures c.is_dotless-2.ensures c.if-not-is_zone.false c.if-not-is_dotless.false c.if-not-is_dotless-2.false
