-- A read of a link that gives bytes is the step of its turn.
use Rattle.std.proofs.Common.{◌≡◌, ℕ, zero, suc, Bool, true, false, cond, List, [], ◌∷◌, ◌++◌, drop, length, Option, Some, None, Ok, Err, refl, sym, ap, ◌∙◌, subst, append-nil}
use Rattle.std.specs.Prelude.{Result}
use Rattle.std.specs.BTreeMap.{is_at}
use Rattle.std.specs.Ordering.{nat_cmp}
use Rattle.std.proofs.lemmas.Map.Steps.{set_value_same}
use Rattle.mesh_base.specs.declared.limits.Limits.{Limits}
use Rattle.mesh_links.specs.Calls.{last_in}
use Rattle.mesh_links.specs.declared.call.LinkCall.{LinkCall}
use Rattle.mesh_links.specs.declared.call.LinkCall.TheVariants as calls
use Rattle.mesh_links.specs.declared.call.ReadGot.TheVariants as reads
use Rattle.line_run.specs.Rows.{Row}
use Rattle.request_sim.specs.declared.fault.SimFault.{SimFault}
use Rattle.view_types.specs.declared.config.Config.{Config}
use Rattle.session_core.specs.Phases.{Phase, Opening, Feeding, Asking, Asked, is_feeding, rows_in}
use Rattle.session_core.specs.declared.session.SessionFault.{SessionFault}
use Rattle.route_match.specs.Matching.{Pat}
use Rattle.link_sessions.specs.Entries.{changed, changed_by, entries_of, filled, link_at, with_link, with_outbox}
use Rattle.link_sessions.specs.Roles.{is_written}
use Rattle.link_sessions.specs.Settled.{IsSettled, IsSettledBut}
use Rattle.link_sessions.specs.declared.link.Link.{Link}
use Rattle.serve_rules.specs.Batches.{Serving}
use Rattle.serve_rules.specs.FedLines.{FedRow}
use Rattle.serve_rules.specs.LinkStates.{LinkState, admits, came, closing, fed_rows, fed_then as fed_after, heard, is_empty, is_feed, may_read, phase_in, read_feeds, read_to, turned_away}
use Rattle.serve_rules.specs.Turns.{ReadIf, ReadStep, room}
use Rattle.serve_core.specs.Linked.{IsKept}
use Rattle.serve_core.specs.Served.{IsAt, serving_of}
use Rattle.serve_core.specs.declared.turning.Turning.{Turning}
use Rattle.serve_core.proofs.HeardLinks.{nearly_replaced}
use Rattle.serve_core.proofs.KeptLinks.{Kept, found_at, replaced_at}
use Rattle.serve_core.proofs.LinesHeard.{IsHearing}

-- ---- rows of a link that feeds none

pub rows_none : (limit : ℕ) (ended : Bool) (phase : Result Phase SessionFault) → is_feeding phase ≡ false → rows_in limit ended phase ≡ []
rows_none limit ended (Ok Opening) unfed = refl
rows_none limit ended (Ok (Feeding text)) unfed = absurd cc
rows_none limit ended (Ok Asking) unfed = refl
rows_none limit ended (Ok (Asked query)) unfed = refl
rows_none limit ended (Err fault) unfed = refl

pub drop_none : (n : ℕ) → ◌≡◌ {A = List Row} (drop n []) []
drop_none zero = refl
drop_none (suc n) = refl

-- ---- the answers are put

module _ (config : Config) (limits : Limits) (pat : Pat) (fed : List FedRow) (number : ℕ) (done : List LinkState) (t : LinkState) (links : List LinkState) (trace : List LinkCall) (same : t.number ≡ number) (is_open : t.is_open ≡ true) (answers : List (List ℕ)) (quiet : is_empty t.outbox ≡ false → answers ≡ [])
    (unfed : is_feed (serving_of config limits pat) t.bytes ≡ false → answers ≡ []) where
  abbrev serving : Serving
  serving = serving_of config limits pat

  abbrev pub u : LinkState
  u = record t { outbox = t.outbox ++ answers }

  -- what is filled is added, since it was empty, or nothing is added
  outbox_by : (items : List (List ℕ)) → (is_empty items ≡ false → answers ≡ []) → cond (is_written items) answers items ≡ items ++ answers
  outbox_by [] none = refl
  outbox_by (item ∷ items) none = sym (append-nil (item ∷ items)) ∙ ap (λ more. (item ∷ items) ++ more) (sym (none refl))

  filled_outbox : (link : Link) → (filled answers link).session.outbox ≡ cond (is_written link.session.outbox) answers link.session.outbox
  filled_outbox link = by_test (is_written link.session.outbox)
    where
      by_test : (b : Bool) → (cond b (with_outbox answers link) link).session.outbox ≡ cond b answers link.session.outbox
      by_test true = refl
      by_test false = refl

  kept_put : (id_of : ℕ → ℕ) (link : Link) → IsKept serving id_of t link → IsKept serving id_of u (filled answers link)
  kept_put id_of link is = by_test (is_written link.session.outbox) (filled_outbox link ∙ ap (λ items. cond (is_written items) answers items) is.outbox ∙ outbox_by t.outbox quiet)
    where
      by_test : (b : Bool) → (cond b (with_outbox answers link) link).session.outbox ≡ t.outbox ++ answers → IsKept serving id_of u (cond b (with_outbox answers link) link)
      by_test true outbox = record {
        fine = is.fine;
        readable = is.readable;
        writable = is.writable;
        ended = is.ended;
        role = is.role;
        session = record { config_is = is.session.config_is; limits_are = is.session.limits_are; keeps = is.session.keeps };
        outbox = outbox;
        quiet = λ no_feed unasked. ap (λ items. items ++ answers) (is.quiet no_feed unasked) ∙ unfed no_feed;
      }
      by_test false outbox = record {
        fine = is.fine;
        readable = is.readable;
        writable = is.writable;
        ended = is.ended;
        role = is.role;
        session = is.session;
        outbox = outbox;
        quiet = λ no_feed unasked. ap (λ items. items ++ answers) (is.quiet no_feed unasked) ∙ unfed no_feed;
      }

  pub put_at : (between heard : Turning) (was ended : Bool) → was ≡ ended → IsHearing config limits pat fed number was ended (done ++ t ∷ links) trace between → heard ≡ record between { kept = heard.kept } → entries_of heard.kept ≡ changed number (filled answers) (entries_of between.kept)
      → (IsSettledBut number between.kept → IsSettled heard.kept) → IsAt config limits pat fed (done ++ u ∷ links) trace heard
  put_at between heard was ended same_end at is entries settled =
      let es = entries_of between.kept in
      let high = last_in trace in
      let link : Link = at.link in
      let whole : record link { ended = ended } ≡ link = ap (λ b. record link { ended = b }) (sym (at.was_is ∙ same_end)) in
      let kept : Kept serving at.id_of (done ++ t ∷ links) es = subst (λ all. Kept serving at.id_of (done ++ t ∷ links) all) (ap (λ one. with_link number es one) whole ∙ set_value_same (is_at (nat_cmp number)) es link at.at) at.links_are in
      let found = found_at serving at.id_of done t links 0 high es at.is.in_order is_open kept in
      let here : link_at number es ≡ Some found.link = subst (λ m. link_at m es ≡ Some found.link) same found.at in
      record {
        id_of = at.id_of;
        is = nearly_replaced config limits pat fed number done t links trace same is_open t.bytes t.ended (t.outbox ++ answers) refl at.id_of between heard (ap (λ (one : Turning). one.hub) is) (ap (λ (one : Turning). one.config) is) (ap (λ (one : Turning). one.limits) is) at.is;
        keeps = record {
          links_are = subst (λ all. Kept serving at.id_of (done ++ u ∷ links) all) (sym (entries ∙ ap (changed_by number (filled answers) es) here))
              (replaced_at serving at.id_of number (filled answers found.link) u same (kept_put at.id_of found.link found.is) done t links 0 high es at.is.in_order same is_open is_open kept);
          settled = settled at.settled;
        };
      }

-- ---- the step

pub came_is : (serving : Serving) (met : ℕ → Option SimFault) (s : LinkState) (piece : List ℕ)
    → came serving met s piece ≡ fed_rows s.number met (length (rows_in serving.program.limits.line false (phase_in serving s.bytes))) (drop (length (rows_in serving.program.limits.line false (phase_in serving s.bytes))) (rows_in serving.program.limits.line (is_empty piece) (phase_in serving (s.bytes ++ piece))))
unfolding came
came_is _ met s piece = refl

module _ (serving : Serving) (others : List LinkState) (fed : List FedRow) (s : LinkState) (piece : List ℕ) where
  heard_to : (met : ℕ → Option SimFault) → read_to serving true met fed s (reads.Bytes piece) ≡ heard serving fed (came serving met s piece) s piece
  unfolding read_to
  heard_to met = refl

  away_to : (met : ℕ → Option SimFault) → read_to serving false met fed s (reads.Bytes piece) ≡ turned_away s piece
  unfolding read_to
  away_to met = refl

  heard_feeds : (met : ℕ → Option SimFault) → read_feeds serving true met fed s (reads.Bytes piece) ≡ fed_after fed (came serving met s piece)
  unfolding read_feeds
  heard_feeds met = refl

  away_feeds : (met : ℕ → Option SimFault) → read_feeds serving false met fed s (reads.Bytes piece) ≡ fed
  unfolding read_feeds
  away_feeds met = refl

  -- a link that is admitted is heard
  pub heard_step : (made : List LinkCall) (now : List FedRow) (t : LinkState) (met : ℕ → Option SimFault) → may_read serving s ≡ true → admits serving others s.bytes (reads.Bytes piece) ≡ true → made ≡ calls.Read s.number room (reads.Bytes piece) ∷ closing s t → now ≡ fed_after fed (came serving met s piece)
      → t ≡ heard serving fed (came serving met s piece) s piece → ReadStep serving false others fed s made now t
  heard_step made now t met turn admitted calls_are fed_is link = subst (λ b. ReadIf b serving false others fed s made now t) (sym turn) (record {
    got = reads.Bytes piece;
    met = met;
    calls = calls_are;
    fed_now = fed_is ∙ sym (heard_feeds met) ∙ ap (λ b. read_feeds serving b met fed s (reads.Bytes piece)) (sym admitted);
    link = link ∙ sym (heard_to met) ∙ ap (λ b. read_to serving b met fed s (reads.Bytes piece)) (sym admitted);
    unmet = tt;
  })

  -- one that isn't is turned away
  pub away_step : (made : List LinkCall) (t : LinkState) → may_read serving s ≡ true → admits serving others s.bytes (reads.Bytes piece) ≡ false → made ≡ calls.Read s.number room (reads.Bytes piece) ∷ closing s t → t ≡ turned_away s piece → ReadStep serving false others fed s made fed t
  away_step made t turn refused calls_are link = subst (λ b. ReadIf b serving false others fed s made fed t) (sym turn) (record {
    got = reads.Bytes piece;
    met = λ n. None;
    calls = calls_are;
    fed_now = sym (away_feeds (λ n. None)) ∙ ap (λ b. read_feeds serving b (λ n. None) fed s (reads.Bytes piece)) (sym refused);
    link = link ∙ sym (away_to (λ n. None)) ∙ ap (λ b. read_to serving b (λ n. None) fed s (reads.Bytes piece)) (sym refused);
    unmet = tt;
  })
