use Rattle.std.proofs.Common.{◌≡◌, cond, Some, sym, subst, ◌∙◌}
use Rattle.std.specs.BTreeMap as tree
use Rattle.mesh_base.specs.contracts.key.ObjKeyOrd as key_order
use Rattle.mesh_base.specs.declared.key.ObjKey.{ObjKey}
use Rattle.server_index.specs.Matches.{noted_at}
use Rattle.server_index.proofs.Noted.{at_key, more_there, more_true, noted_before}
use Rattle.server_index.proofs.notes.ServerNotes.note.Goals as goal

pub returns-then-contains_key-clause-there : goal.returns-then-contains_key-clause-there
returns-then-contains_key-clause-there g c = λ right.
    let key = c.args.key.now in
    noted_before c.args.store.now.objects (noted_at c.args.self.now key) key (sym c.contains_key.ensures ∙ c.if-contains_key.true) (right key)

pub returns-clause-right : goal.returns-clause-right
returns-clause-right g c =
    let old = noted_at c.args.self.now in
    let new = λ (k : ObjKey). tree.get key_order.TheImpl.cmp-value.it c.insert.new.self k in
    let found = c.in_ok-server.server in
    let put : (k : ObjKey) → new k ≡ cond (at_key c.args.key.now k) (Some found) (old k) =
    subst (λ (at : ObjKey). (k : ObjKey) → new k ≡ cond (at_key at k) (Some found) (old k)) c.in_ok-copy.ensures c.in_ok-insert.ensures.updates.0 in
    more_true c.args.store.now.objects old new c.args.key.now found (c.in_ok-server.ensures ∙ c.server_at.ensures.value) put

pub returns-clause-there : goal.returns-clause-there
returns-clause-there g c = λ right.
    let old = noted_at c.args.self.now in
    let new = λ (k : ObjKey). tree.get key_order.TheImpl.cmp-value.it c.insert.new.self k in
    let found = c.in_ok-server.server in
    let put : (k : ObjKey) → new k ≡ cond (at_key c.args.key.now k) (Some found) (old k) =
    subst (λ (at : ObjKey). (k : ObjKey) → new k ≡ cond (at_key at k) (Some found) (old k)) c.in_ok-copy.ensures c.in_ok-insert.ensures.updates.0 in
    more_there c.args.store.now.objects old new c.args.key.now found (c.in_ok-server.ensures ∙ c.server_at.ensures.value) put
