-- The test of two rows tells whether they are one.
use Rattle.std.proofs.Common.{◌≡◌, ◌≢◌, ℕ, Bool, true, false, List, refl, sym, ap, ◌∙◌}
use Rattle.std.specs.Bool.{Decides}
use Rattle.std.specs.Cmp.{tied_itself, booleans_Decides}
use Rattle.std.specs.Cmp.Lexicographic.{pointwise_decides, bytes_decides, slice_cmp}
use Rattle.std.specs.FinMap.{FinMap, entries, same_entries_map}
use Rattle.std.specs.Ordering.{eq_by_cmp, is_eq, nat_cmp}
use Rattle.std.specs.Str.{bytes_eq}
use Rattle.std.specs.declared.cmp.Ordering.TheVariants.{Equal}
use Rattle.std.proofs.lemmas.Bool.Decides.{Decides-and, Decides-eqb, Decides-like}
use Rattle.net_cidr.specs.Address.{ip_cmp}
use Rattle.net_cidr.specs.declared.ip.Ip.{Ip}
use Rattle.view_rules.proofs.Entries.{equal}
use Rattle.view_rules.proofs.Pairs.{ips_exact, ips_total, pairs_total}
use Rattle.view_rules.proofs.Tests.{option_decides}
use Rattle.view_rules.specs.Same.{same_label, same_labels, same_row}
use Rattle.view_rules.specs.Endpoints.{pair_cmp, pair_of}
use Rattle.view_types.specs.declared.endpoint.EndpointRow.{EndpointRow}

pub ip_decides : (a b : Ip) → Decides (eq_by_cmp ip_cmp a b) (a ≡ b)
ip_decides a b = (λ e. ips_exact a b (equal _ e), λ e. ap (λ c. is_eq (ip_cmp a c)) (sym e) ∙ ap is_eq (tied_itself ips_total a))

pub label_decides : (l m : List ℕ × List ℕ) → Decides (same_label l m) (l ≡ m)
label_decides l m = Decides-like (same_label l m) (λ (p : (l.0 ≡ m.0) × (l.1 ≡ m.1)) i. (p.0 i, p.1 i)) (λ e. (ap (λ l. l.0) e, ap (λ l. l.1) e)) (Decides-and (bytes_eq l.0 m.0) (bytes_eq l.1 m.1) (bytes_decides l.0 m.0) (bytes_decides l.1 m.1))

labels_decide : (ls ms : FinMap (slice_cmp nat_cmp) (List ℕ)) → Decides (same_labels ls ms) (ls ≡ ms)
labels_decide ls ms = Decides-like (same_labels ls ms) (same_entries_map ls ms) (λ e. ap entries e) (pointwise_decides {E = same_label} label_decides (entries ls) (entries ms))

pub row_decides : (r s : EndpointRow) → Decides (same_row r s) (r ≡ s)
unfolding same_row
row_decides r s =
    let ip = ip_decides r.ip s.ip in
    let labels = labels_decide r.labels s.labels in
    let identity = option_decides bytes_eq bytes_decides r.identity s.identity in
    let tunnel = option_decides _ Decides-eqb r.tunnel s.tunnel in
    Decides-like _
    (λ (p : (((((((r.ip ≡ s.ip) × (r.port ≡ s.port)) × (r.weight ≡ s.weight)) × (r.labels ≡ s.labels)) × (r.identity ≡ s.identity)) × (r.tunnel ≡ s.tunnel)) × (r.h2 ≡ s.h2))) i.
    record { ip = p.0.0.0.0.0.0 i; port = p.0.0.0.0.0.1 i; weight = p.0.0.0.0.1 i; labels = p.0.0.0.1 i; identity = p.0.0.1 i; tunnel = p.0.1 i; h2 = p.1 i })
    (λ e. (((((((ap (λ r. r.ip) e, ap (λ r. r.port) e), ap (λ r. r.weight) e), ap (λ r. r.labels) e), ap (λ r. r.identity) e), ap (λ r. r.tunnel) e), ap (λ r. r.h2) e)))
    (Decides-and _ _ (Decides-and _ _ (Decides-and _ _ (Decides-and _ _ (Decides-and _ _ (Decides-and _ _ ip (Decides-eqb r.port s.port)) (Decides-eqb r.weight s.weight)) labels) identity) tunnel) (booleans_Decides r.h2 s.h2))

no : (b : Bool) → b ≢ true → b ≡ false
no true h = absurd (h refl)
no false h = refl

-- rows at two places are not the same
pub apart : (r s : EndpointRow) → pair_cmp (pair_of r) (pair_of s) ≢ Equal → same_row r s ≡ false
apart r s h = no _ (λ e. h (ap (λ t. pair_cmp (pair_of r) (pair_of t)) (sym ((row_decides r s).0 e)) ∙ tied_itself pairs_total (pair_of r)))
