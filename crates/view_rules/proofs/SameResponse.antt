-- The test of two matches of responses tells whether they are one.
use Rattle.std.proofs.Common.{◌≡◌, Bool, sym, ap, subst, ◌∙◌}
use Rattle.std.specs.Bool.{Decides}
use Rattle.std.proofs.lemmas.Bool.Decides.{Decides-and, Decides-eqb, Decides-like}
use Rattle.view_types.specs.declared.profile.RespMatch.{RespMatch, fold-roll-RespMatch, ind-RespMatch, map-RespMatch, out-RespMatch, out-roll-RespMatch, roll-RespMatch, roll-out-RespMatch}
use Rattle.view_types.specs.declared.profile.RespMatch.TheOpen.{RespMatch-F}
use Rattle.view_rules.specs.Same.{same_response, same_response_by}
use Rattle.view_rules.proofs.Tests.{Told, pass_decides}

abbrev ToldResponse : Type 0
ToldResponse = Told same_response

abbrev items_of : RespMatch-F ToldResponse → RespMatch-F RespMatch
items_of y = map-RespMatch ToldResponse RespMatch (λ e. e.0) y

abbrev tests_of : RespMatch-F RespMatch → RespMatch-F (RespMatch → Bool)
tests_of x = map-RespMatch RespMatch (RespMatch → Bool) same_response x

layers_decide : (y : RespMatch-F ToldResponse) (other : RespMatch-F RespMatch) → Decides (same_response_by (tests_of (items_of y)) other) (items_of y ≡ other)
layers_decide (RespMatch-F.Status low high) (RespMatch-F.Status other_low other_high) =
    Decides-like _ (λ (p : (low ≡ other_low) × (high ≡ other_high)) i. RespMatch-F.Status (p.0 i) (p.1 i)) (λ e. (cc, cc)) (Decides-and _ _ (Decides-eqb low other_low) (Decides-eqb high other_high))
layers_decide (RespMatch-F.All items) (RespMatch-F.All parts) = Decides-like _ (ap RespMatch-F.All) (λ e. cc) (pass_decides same_response items parts)
layers_decide (RespMatch-F.Any items) (RespMatch-F.Any parts) = Decides-like _ (ap RespMatch-F.Any) (λ e. cc) (pass_decides same_response items parts)
layers_decide (RespMatch-F.Not item) (RespMatch-F.Not part) = Decides-like _ (ap RespMatch-F.Not) (λ e. cc) (item.1 part)
layers_decide _ _ = (λ e. cc, λ e. cc)

by_layers : (x : RespMatch-F RespMatch) (other : RespMatch) → same_response (roll-RespMatch x) other ≡ same_response_by (tests_of x) (out-RespMatch other)
by_layers x other = ap (λ (test : RespMatch → Bool). test other) (fold-roll-RespMatch (RespMatch → Bool) (λ mine other. same_response_by mine (out-RespMatch other)) x)

pub response_decides : (mine other : RespMatch) → Decides (same_response mine other) (mine ≡ other)
response_decides = ind-RespMatch (λ mine. (other : RespMatch) → Decides (same_response mine other) (mine ≡ other)) (λ x y is other.
    let layers = subst (λ x. Decides (same_response_by (tests_of x) (out-RespMatch other)) (x ≡ out-RespMatch other)) is (layers_decide y (out-RespMatch other)) in
    subst (λ b. Decides b (roll-RespMatch x ≡ other)) (sym (by_layers x other))
    (Decides-like _ (λ e. ap roll-RespMatch e ∙ roll-out-RespMatch other) (λ e. sym (out-roll-RespMatch x) ∙ ap out-RespMatch e) layers))
