-- The test of two matches of requests tells whether they are one.
use Rattle.std.proofs.Common.{◌≡◌, Bool, sym, ap, subst, ◌∙◌}
use Rattle.std.specs.Bool.{Decides}
use Rattle.std.specs.Cmp.Lexicographic.{bytes_decides}
use Rattle.std.proofs.lemmas.Bool.Decides.{Decides-like}
use Rattle.view_types.specs.declared.profile.ReqMatch.{ReqMatch, fold-roll-ReqMatch, ind-ReqMatch, map-ReqMatch, out-ReqMatch, out-roll-ReqMatch, roll-ReqMatch, roll-out-ReqMatch}
use Rattle.view_types.specs.declared.profile.ReqMatch.TheOpen.{ReqMatch-F}
use Rattle.view_rules.specs.Same.{same_request, same_request_by}
use Rattle.view_rules.proofs.Tests.{Told, pass_decides}

abbrev ToldRequest : Type 0
ToldRequest = Told same_request

abbrev items_of : ReqMatch-F ToldRequest → ReqMatch-F ReqMatch
items_of y = map-ReqMatch ToldRequest ReqMatch (λ e. e.0) y

abbrev tests_of : ReqMatch-F ReqMatch → ReqMatch-F (ReqMatch → Bool)
tests_of x = map-ReqMatch ReqMatch (ReqMatch → Bool) same_request x

layers_decide : (y : ReqMatch-F ToldRequest) (other : ReqMatch-F ReqMatch) → Decides (same_request_by (tests_of (items_of y)) other) (items_of y ≡ other)
layers_decide (ReqMatch-F.Method name) (ReqMatch-F.Method other) = Decides-like _ (ap ReqMatch-F.Method) (λ e. cc) (bytes_decides name other)
layers_decide (ReqMatch-F.Path regex) (ReqMatch-F.Path other) = Decides-like _ (ap ReqMatch-F.Path) (λ e. cc) (bytes_decides regex other)
layers_decide (ReqMatch-F.All items) (ReqMatch-F.All parts) = Decides-like _ (ap ReqMatch-F.All) (λ e. cc) (pass_decides same_request items parts)
layers_decide (ReqMatch-F.Any items) (ReqMatch-F.Any parts) = Decides-like _ (ap ReqMatch-F.Any) (λ e. cc) (pass_decides same_request items parts)
layers_decide (ReqMatch-F.Not item) (ReqMatch-F.Not part) = Decides-like _ (ap ReqMatch-F.Not) (λ e. cc) (item.1 part)
layers_decide _ _ = (λ e. cc, λ e. cc)

by_layers : (x : ReqMatch-F ReqMatch) (other : ReqMatch) → same_request (roll-ReqMatch x) other ≡ same_request_by (tests_of x) (out-ReqMatch other)
by_layers x other = ap (λ (test : ReqMatch → Bool). test other) (fold-roll-ReqMatch (ReqMatch → Bool) (λ mine other. same_request_by mine (out-ReqMatch other)) x)

pub request_decides : (mine other : ReqMatch) → Decides (same_request mine other) (mine ≡ other)
request_decides = ind-ReqMatch (λ mine. (other : ReqMatch) → Decides (same_request mine other) (mine ≡ other)) (λ x y is other.
    let layers = subst (λ x. Decides (same_request_by (tests_of x) (out-ReqMatch other)) (x ≡ out-ReqMatch other)) is (layers_decide y (out-ReqMatch other)) in
    subst (λ b. Decides b (roll-ReqMatch x ≡ other)) (sym (by_layers x other))
    (Decides-like _ (λ e. ap roll-ReqMatch e ∙ roll-out-ReqMatch other) (λ e. sym (out-roll-ReqMatch x) ∙ ap out-ReqMatch e) layers))
