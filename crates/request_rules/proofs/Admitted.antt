-- A row admits a client exactly where the authorization that it shows does.
use Rattle.std.proofs.Common.{◌≡◌, ℕ, zero, ◌<◌, ◌/◌, ◌^◌, ◌==◌, Bool, true, false, ◌&&◌, ◌||◌, List, Option, Some, None, refl, sym, ap, ◌∙◌, arith}
use Rattle.std.specs.List.{list_any}
use Rattle.std.specs.Option.{unwrap_or}
use Rattle.std.proofs.Math.Nat.{div-eq_of_lt}
use Rattle.std.proofs.lemmas.Bool.Decides.{Decides-eqb}
use Rattle.net_cidr.specs.Texts.{FitsIp}
use Rattle.net_cidr.specs.declared.block.Block.{Block}
use Rattle.net_cidr.specs.declared.ip.Ip.{Ip}
use Rattle.net_cidr.specs.declared.ip.Ip.TheVariants.{V4, V6}
use Rattle.view_types.specs.Objects.{ObjectMap}
use Rattle.view_types.specs.declared.config.Config.{Config}
use Rattle.view_types.specs.declared.object.Object.{Object}
use Rattle.view_types.specs.declared.object.Object.TheVariants as object
use Rattle.view_types.specs.declared.request.ClientTls.{ClientTls}
use Rattle.view_types.specs.declared.server_view.AuthzRow.{AuthzRow}
use Rattle.view_rules.specs.Policies.{authz_row, clients, everywhere, networks, policy_authn}
use Rattle.request_rules.specs.Admits.{admits, authn_holds, is_from, row_admits}
use Rattle.request_rules.specs.Laws.{RowsAdmitAsTheirObjects}
use Rattle.request_rules.specs.Networks.{block_holds}
use Rattle.request_rules.proofs.Clients.{authn_alike, policy_alike}

zero_agrees : (n m : ℕ) → n < m → (0 / m == n / m) ≡ true
zero_agrees n m lt = let low : zero < m = omega arith in (Decides-eqb (0 / m) (n / m)).1 (div-eq_of_lt low ∙ sym (div-eq_of_lt lt))

everywhere_holds : (ip : Ip) → FitsIp ip → list_any (block_holds ip) everywhere ≡ true
everywhere_holds (V4 n) fits = ap (λ b. (b && true) || (false || false)) (zero_agrees n (2 ^ 32) fits)
everywhere_holds (V6 n) fits = ap (λ b. (b && true) || false) (zero_agrees n (2 ^ 128) fits)

blocks_alike : (blocks : Option (List Block)) (ip : Ip) → FitsIp ip → list_any (block_holds ip) (unwrap_or blocks everywhere) ≡ is_from blocks ip
blocks_alike None ip fits = everywhere_holds ip fits
blocks_alike (Some blocks) ip fits = refl

shown : (ip : Ip) (tls : ClientTls) (x row : AuthzRow) (b : Bool) → Some x ≡ Some row → row_admits ip tls x ≡ b → row_admits ip tls row ≡ b
shown ip tls x row b made h = let is : x ≡ row = cc made in ap (row_admits ip tls) (sym is) ∙ h

pub rows_admit_as_their_objects : RowsAdmitAsTheirObjects
rows_admit_as_their_objects config held (object.ServerAuthorization authorization) row ip fits tls made =
    shown ip tls _ row _ made (ap (λ b. list_any (block_holds ip) authorization.blocks && b) (authn_alike config authorization.authn tls))
rows_admit_as_their_objects config held (object.AuthorizationPolicy policy) row ip fits tls made =
    shown ip tls _ row _ made
    (ap (λ b. b && authn_holds (policy_authn config (clients held policy)) tls) (blocks_alike (networks held policy) ip fits)
    ∙ ap (λ b. is_from (networks held policy) ip && b) (policy_alike config (clients held policy) tls))
rows_admit_as_their_objects config held _ row ip fits tls made = absurd (cc made)

-- what isn't shown admits nobody
pub not_shown : (config : Config) (held : ObjectMap) (ip : Ip) (tls : ClientTls) (o : Object) → authz_row config held o ≡ None → admits config held ip tls o ≡ false
not_shown config held ip tls (object.ServerAuthorization authorization) e = absurd (cc e)
not_shown config held ip tls (object.AuthorizationPolicy policy) e = absurd (cc e)
not_shown config held ip tls _ e = refl
