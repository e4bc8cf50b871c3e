-- The first object that counts and admits a client is the least, and the first row that admits it shows that one.
use Rattle.std.proofs.Common.{◌≡◌, Bool, true, false, cond, ◌&&◌, List, [], ◌∷◌, Option, Some, None, refl, sym, ap, ◌∙◌}
use Rattle.std.specs.Prelude.{filter, filter_map, find, option_and_then}
use Rattle.std.specs.FinMap.{values}
use Rattle.std.specs.List.{cons_option}
use Rattle.std.proofs.lemmas.Bool.{and_from, and_parts}
use Rattle.net_cidr.specs.declared.ip.Ip.{Ip}
use Rattle.view_types.specs.Objects.{AtKeys, ObjectMap}
use Rattle.view_types.specs.declared.config.Config.{Config}
use Rattle.view_types.specs.declared.object.Object.{Object}
use Rattle.view_types.specs.declared.request.ClientTls.{ClientTls}
use Rattle.view_types.specs.declared.server_view.AuthzRow.{AuthzRow}
use Rattle.view_rules.specs.Policies.{authz_row}
use Rattle.request_rules.specs.Admits.{admits, row_admits}
use Rattle.request_rules.specs.Laws.{FirstRowsShowTheLeast, IsAdmitting, IsLeastObject}
use Rattle.request_rules.proofs.Admitted.{not_shown, rows_admit_as_their_objects}
use Rattle.view_rules.proofs.FirstHeld.{first_passing, none_passing}

module _ (config : Config) (held : ObjectMap) (at_keys : AtKeys held) (applies : Object → Bool) (ip : Ip) (tls : ClientTls) where
  abbrev pub counts : Object → Bool
  counts o = applies o && admits config held ip tls o

  pub least_admits : (o : Object) → find counts (values held) ≡ Some o → IsLeastObject (IsAdmitting config held applies ip tls) o
  least_admits o found =
      let is_first = first_passing counts held at_keys o found in
      let is = and_parts (applies o) (admits config held ip tls o) is_first.passes in
      record {
        is = record { at_key = is_first.at_key; passes = is.0; admitting = is.1 };
        least = λ other h. is_first.least other h.at_key (and_from (applies other) (admits config held ip tls other) h.passes h.admitting);
      }

  pub none_admits : find counts (values held) ≡ None → (o : Object) → IsAdmitting config held applies ip tls o → ⊥
  none_admits none o is = none_passing counts held at_keys none o is.at_key (and_from (applies o) (admits config held ip tls o) is.passes is.admitting)

-- ---- rows

-- the first row that passes is that of the first object, where each row passes as its object does, and objects without a row don't
module _ (row_passes : AuthzRow → Bool) (row_of : Object → Option AuthzRow) (applies passes : Object → Bool)
    (each : (o : Object) (row : AuthzRow) → row_of o ≡ Some row → row_passes row ≡ passes o) (none : (o : Object) → row_of o ≡ None → passes o ≡ false) where
  abbrev counting : Object → Bool
  counting o = applies o && passes o

  first_row : (os : List Object) → find row_passes (filter_map row_of (filter applies os)) ≡ option_and_then row_of (find counting os)
  first_row [] = refl
  first_row (o ∷ os) =
      elim (applies o) as (λ b. find row_passes (filter_map row_of (cond b (o ∷ filter applies os) (filter applies os))) ≡ option_and_then row_of (cond (b && passes o) (Some o) (find counting os))) [
        | true ↦ elim (row_of o) as (λ r. row_of o ≡ r → find row_passes (cons_option r (filter_map row_of (filter applies os))) ≡ option_and_then row_of (cond (passes o) (Some o) (find counting os))) [
          | None ↦ λ e. first_row os ∙ ap (λ b. option_and_then row_of (cond b (Some o) (find counting os))) (sym (none o e))
          | Some row ↦ λ e. ap (λ b. cond b (Some row) (find row_passes (filter_map row_of (filter applies os)))) (each o row e)
              ∙ elim (passes o) as (λ b. cond b (Some row) (find row_passes (filter_map row_of (filter applies os))) ≡ option_and_then row_of (cond b (Some o) (find counting os))) [ true ↦ sym e | false ↦ first_row os ]
        ] refl
        | false ↦ first_row os
      ]

pub first_rows_show_the_least : FirstRowsShowTheLeast
first_rows_show_the_least config held at_keys applies ip fits tls =
    let Is = IsAdmitting config held applies ip tls in
    let p : Object → Bool = λ o. applies o && admits config held ip tls o in
    let shows = first_row (row_admits ip tls) (authz_row config held) applies (admits config held ip tls)
    (λ o row e. rows_admit_as_their_objects config held o row ip fits tls e) (not_shown config held ip tls) (values held) in
    record {
      some = λ row e. elim (find p (values held)) as (λ f. find p (values held) ≡ f → option_and_then (authz_row config held) f ≡ Some row → (o : Object) × IsLeastObject Is o × (authz_row config held o ≡ Some row)) [
        | None ↦ λ found e. absurd (cc e)
        | Some o ↦ λ found made. (o, least_admits config held at_keys applies ip tls o found, made)
      ] refl (sym shows ∙ e);
      none = λ e. elim (find p (values held)) as (λ f. find p (values held) ≡ f → option_and_then (authz_row config held) f ≡ None → (o : Object) → Is o → ⊥) [
        | None ↦ λ found e. none_admits config held at_keys applies ip tls found
        | Some other ↦ λ found made.
            let least = least_admits config held at_keys applies ip tls other found in
            let no : false ≡ true = sym (not_shown config held ip tls other made) ∙ least.is.admitting in absurd (cc no)
      ] refl (sym shows ∙ e);
    }
