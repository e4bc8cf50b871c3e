-- When two rows, or two profiles, are the same: nothing differs. A law states that they are the
-- same exactly if they are equal.
use Rattle.std.specs.Prelude.{◌&&◌, ◌==◌, ℕ, Bool, true, false, List, [], ◌∷◌, Option, Some, None}
use Rattle.std.specs.Bool.{beq}
use Rattle.std.specs.Cmp.Lexicographic.{pointwise, slice_cmp}
use Rattle.std.specs.FinMap.{FinMap, entries}
use Rattle.std.specs.Ordering.{eq_by_cmp, nat_cmp}
use Rattle.std.specs.Str.{bytes_eq}
use Rattle.net_cidr.specs.Address.{ip_cmp}
use Rattle.view_types.specs.declared.endpoint.EndpointRow.{EndpointRow}
use Rattle.view_types.specs.declared.outbound.ProfileView.{ProfileView}
use Rattle.view_types.specs.declared.profile.Override.{Override}
use Rattle.view_types.specs.declared.profile.ProfileRoute.{ProfileRoute}
use Rattle.view_types.specs.declared.profile.ReqMatch.{ReqMatch, fold-ReqMatch, out-ReqMatch}
use Rattle.view_types.specs.declared.profile.ReqMatch.TheOpen.{ReqMatch-F}
use Rattle.view_types.specs.declared.profile.RespClass.{RespClass}
use Rattle.view_types.specs.declared.profile.RespMatch.{RespMatch, fold-RespMatch, out-RespMatch}
use Rattle.view_types.specs.declared.profile.RespMatch.TheOpen.{RespMatch-F}

abbrev pub same_option : {X : Type 0} → (X → X → Bool) → Option X → Option X → Bool
same_option same None None = true
same_option same (Some x) (Some y) = same x y
same_option same _ _ = false

-- ---- rows of endpoints

abbrev pub same_label : List ℕ × List ℕ → List ℕ × List ℕ → Bool
same_label l m = bytes_eq l.0 m.0 && bytes_eq l.1 m.1

abbrev pub same_labels : FinMap (slice_cmp nat_cmp) (List ℕ) → FinMap (slice_cmp nat_cmp) (List ℕ) → Bool
same_labels ls ms = pointwise same_label (entries ls) (entries ms)

unfoldable pub same_row : EndpointRow → EndpointRow → Bool
same_row r s =
    eq_by_cmp ip_cmp r.ip s.ip
    && (r.port == s.port)
    && (r.weight == s.weight)
    && same_labels r.labels s.labels
    && same_option bytes_eq r.identity s.identity
    && same_option (λ p q. p == q) r.tunnel s.tunnel
    && beq r.h2 s.h2

-- ---- matches of profiles

-- as many tests as items, and each item passes its test
abbrev pub pass : {X : Type 0} → List (X → Bool) → List X → Bool
pass [] [] = true
pass (test ∷ tests) (x ∷ xs) = test x && pass tests xs
pass _ _ = false

-- the requests of the second match are those of the first, whose inner matches are given as tests
abbrev pub same_request_by : ReqMatch-F (ReqMatch → Bool) → ReqMatch-F ReqMatch → Bool
same_request_by (ReqMatch-F.Method name) (ReqMatch-F.Method other) = bytes_eq name other
same_request_by (ReqMatch-F.Path regex) (ReqMatch-F.Path other) = bytes_eq regex other
same_request_by (ReqMatch-F.All tests) (ReqMatch-F.All parts) = pass tests parts
same_request_by (ReqMatch-F.Any tests) (ReqMatch-F.Any parts) = pass tests parts
same_request_by (ReqMatch-F.Not test) (ReqMatch-F.Not part) = test part
same_request_by _ _ = false

abbrev pub same_request : ReqMatch → ReqMatch → Bool
same_request = fold-ReqMatch (ReqMatch → Bool) (λ mine other. same_request_by mine (out-ReqMatch other))

abbrev pub same_response_by : RespMatch-F (RespMatch → Bool) → RespMatch-F RespMatch → Bool
same_response_by (RespMatch-F.Status low high) (RespMatch-F.Status other_low other_high) = (low == other_low) && (high == other_high)
same_response_by (RespMatch-F.All tests) (RespMatch-F.All parts) = pass tests parts
same_response_by (RespMatch-F.Any tests) (RespMatch-F.Any parts) = pass tests parts
same_response_by (RespMatch-F.Not test) (RespMatch-F.Not part) = test part
same_response_by _ _ = false

abbrev pub same_response : RespMatch → RespMatch → Bool
same_response = fold-RespMatch (RespMatch → Bool) (λ mine other. same_response_by mine (out-RespMatch other))

-- ---- profiles

abbrev pub same_class : RespClass → RespClass → Bool
same_class c d = same_response c.condition d.condition && beq c.failure d.failure

abbrev pub same_route : ProfileRoute → ProfileRoute → Bool
same_route r s =
    bytes_eq r.name s.name
    && same_request r.condition s.condition
    && pointwise same_class r.classes s.classes
    && beq r.retryable s.retryable
    && same_option (λ p q. p == q) r.timeout s.timeout

abbrev pub same_override : Override → Override → Bool
same_override o p = bytes_eq o.authority p.authority && (o.weight == p.weight)

unfoldable pub same_profile : ProfileView → ProfileView → Bool
same_profile v w =
    bytes_eq v.fqn w.fqn
    && beq v.opaque w.opaque
    && pointwise same_route v.routes w.routes
    && pointwise same_override v.overrides w.overrides
    && same_option same_row v.endpoint w.endpoint
