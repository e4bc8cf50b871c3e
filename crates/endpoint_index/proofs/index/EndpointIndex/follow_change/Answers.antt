use Rattle.std.proofs.Common.{sym, ap, subst, ◌∙◌}
use Rattle.mark_rules.specs.Reads.{endpoint_reads}
use Rattle.mark_rules.specs.Rows.{endpoint_row}
use Rattle.mark_rules.specs.contracts.keys.EndpointKeyOrd as key_order
use Rattle.row_table.proofs.Followed.{all_stand}
use Rattle.row_table.specs.IndexRows.{has_key}
use Rattle.row_table.specs.KeyNumbers.{number_at, used_at, users_in}
use Rattle.row_table.specs.TableRows.{AllStand}
use Rattle.endpoint_index.specs.EndpointKeys.{endpoint_keys_exact}
use Rattle.endpoint_index.specs.Standing.{Stands, Tells, marks_in}
use Rattle.endpoint_index.specs.Still.{stands_show, stands_still, view_in}
use Rattle.endpoint_index.proofs.Told.{endpoint_keys_total, told_if}
use Rattle.endpoint_index.proofs.index.EndpointIndex.follow_change.Goals as goal

pub returns-clause-users : goal.returns-clause-users
returns-clause-users g c = λ key. ap (λ used. users_in (used_at key_order.TheImpl.cmp-value.it used key)) c.follow_change.ensures.used

pub returns-clause-numbers : goal.returns-clause-numbers
returns-clause-numbers g c = λ key. ap (λ used. number_at key_order.TheImpl.cmp-value.it used key) c.follow_change.ensures.used

pub returns-clause-stands : goal.returns-clause-stands
returns-clause-stands g c = λ held stand leads.
    let cmp = key_order.TheImpl.cmp-value.it in
    let config = c.args.self.now.rows.rule.config in
    let old = c.args.self.now.rows.table in
    let new = c.follow_change.new.self.table in
    subst (λ rule. AllStand (Stands rule.config) cmp c.args.store.now.objects new.used new.rows) (sym c.follow_change.ensures.rule)
    (all_stand cmp endpoint_keys_total endpoint_keys_exact (Stands config) Tells c.args.change.now.marks c.args.store.now.objects
    (record { row_of = endpoint_row config; reads = endpoint_reads }) view_in marks_in (stands_show config) (stands_still config) held leads
    c.in_ok-keys.keys old.used new.used old.rows new.rows c.follow_change.ensures.used c.in_ok-keys.ensures.keys c.in_ok-keys.ensures.rows stand)

pub returns-clause-before : goal.returns-clause-before
returns-clause-before g c = λ held stand leads key.
    let cmp = key_order.TheImpl.cmp-value.it in
    let touched = c.in_ok-self.ensures key ∙ ap (λ keys. has_key cmp keys key) c.in_ok-copy.ensures in
    told_if c.args.self.now.rows.rule.config c.args.change.now.marks held c.args.store.now.objects key _ _ touched _ _ _ (c.in_ok-keys.ensures.rows key) (stand key) leads
