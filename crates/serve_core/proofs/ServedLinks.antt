-- The reads, the drains and the writes of a turn, one pass after another.
use Rattle.std.proofs.Common.{◌≡◌, ℕ, Bool, true, false, List, [], ◌∷◌, ◌++◌, Option, Some, Result, Ok, Err, refl, sym, ap, ◌∙◌, subst, append_assoc, append-nil}
use Rattle.mesh_base.specs.declared.limits.Limits.{Limits}
use Rattle.mesh_base.specs.declared.memory.Memory.{Memory}
use Rattle.mesh_links.specs.declared.call.LinkCall.{LinkCall}
use Rattle.view_types.specs.declared.config.Config.{Config}
use Rattle.route_match.specs.Matching.{Pat}
use Rattle.feed_history.specs.KnownPatterns.{PatternsNow, facts_in, known_of}
use Rattle.feed_history.specs.MarkCauses.{AreFair}
use Rattle.mesh_hub.specs.Hub.{state_of}
use Rattle.fed_hub.specs.LineSteps.{Holds}
use Rattle.fed_hub.specs.declared.hub.FedHub.{FedHub}
use Rattle.serve_rules.specs.Batches.{Serving}
use Rattle.serve_rules.specs.FedLines.{FedRow, rows_fed, serve_of}
use Rattle.serve_rules.specs.LinkStates.{LinkState, may_write}
use Rattle.serve_rules.specs.Turns.{DrainStep, Each, ReadStep, Step, WriteIf, WriteStep}
use Rattle.serve_rules.proofs.Total.{drain_total, each_total, write_total}
use Rattle.serve_core.specs.Served.{IsAt, serving_of}
use Rattle.serve_core.specs.Steps.{AreUnmarked, IsFed, TakesPass, step_of}
use Rattle.serve_core.specs.Turned.{IsServiceBegun, ServesLinks}
use Rattle.serve_core.specs.declared.turning.Pass.TheVariants as passes
use Rattle.serve_core.specs.declared.turning.Turning.{Turning}
use Rattle.serve_core.proofs.FedParts.{fair_then, fed_then, few_then, told_early, told_late}

-- ---- passes that feed nothing

pub each_same : (step : Step) → ((others : List LinkState) (fed : List FedRow) (s : LinkState) (made : List LinkCall) (now : List FedRow) (t : LinkState) → step others fed s made now t → now ≡ fed)
    → (done : List LinkState) (fed : List FedRow) (ss : List LinkState) (made : List LinkCall) (now : List FedRow) (ts : List LinkState) → Each step done fed ss made now ts → now ≡ fed
each_same step quiet done fed [] made now [] each = each.1
each_same step quiet done fed [] made now (t ∷ ts) each = absurd each
each_same step quiet done fed (s ∷ ss) made now [] each = absurd each
each_same step quiet done fed (s ∷ ss) made now (t ∷ ts) each = each_same step quiet (done ++ t ∷ []) each.2 ss each.1 now ts each.5 ∙ quiet (done ++ ss) fed s each.0 each.2 t each.4

drain_same : (serving : Serving) (fed : List FedRow) (ss : List LinkState) (made : List LinkCall) (now : List FedRow) (ts : List LinkState) → Each (DrainStep serving) [] fed ss made now ts → now ≡ fed
drain_same serving fed ss made now ts each = each_same (DrainStep serving) (λ others fed s made now t stepped. stepped.fed_now) [] fed ss made now ts each

write_if : (b : Bool) (serving : Serving) (others : List LinkState) (fed : List FedRow) (s : LinkState) (made : List LinkCall) (now : List FedRow) (t : LinkState) → WriteIf b serving others fed s made now t → now ≡ fed
write_if true serving others fed s made now t stepped = stepped.fed_now
write_if false serving others fed s made now t stepped = stepped.fed_now

write_same : (serving : Serving) (fed : List FedRow) (ss : List LinkState) (made : List LinkCall) (now : List FedRow) (ts : List LinkState) → Each (WriteStep serving) [] fed ss made now ts → now ≡ fed
write_same serving fed ss made now ts each = each_same (WriteStep serving) (λ others fed s made now t stepped. write_if (may_write s) serving others fed s made now t stepped) [] fed ss made now ts each

-- ---- the set of those to be drained

pub at_found : (config : Config) (limits : Limits) (pat : Pat) (fed : List FedRow) (links : List LinkState) (trace : List LinkCall) (old new : Turning) → new ≡ record old { to_drain = new.to_drain } → IsAt config limits pat fed links trace old
    → IsAt config limits pat fed links trace new
at_found config limits pat fed links trace old new same at =
    subst (λ t. IsAt config limits pat fed links trace t) (sym same)
    (record {
      id_of = at.id_of;
      is = record {
        config_is = at.is.config_is;
        line_config_is = at.is.line_config_is;
        limits_are = at.is.limits_are;
        in_order = at.is.in_order;
        shown = at.is.shown;
        few_requests = at.is.few_requests;
        numbered = at.is.numbered;
        last_id = at.is.last_id;
        few_subs = at.is.few_subs;
        hub = at.is.hub;
        served = at.is.served;
      };
      keeps = at.keeps;
    })

fed_to : (config : Config) (limits : Limits) (pat : Pat) (known : PatternsNow) (fed lines : List FedRow) (old mid new : Turning) → new.hub ≡ mid.hub → IsFed config limits pat known fed lines old mid → IsFed config limits pat known fed lines old new
fed_to config limits pat known fed lines old mid new same is = record {
  holds = subst (λ (hub : FedHub). Holds config limits pat (lines ++ fed) (state_of hub.hub)) (sym same) is.holds;
  few = is.few;
  fair = is.fair;
  stopped = ap (λ hub. hub.stopped) same ∙ is.stopped;
  same_config = ap (λ hub. hub.config) same ∙ is.same_config;
}

-- ---- what is known of patterns

pub pass_as : (step : Serving → Step) (tells tells_now : Option Pat) (refuses refuses_now : Option (List ℕ → Bool)) (before now : ℕ) (traced : Option (List LinkCall)) (old : Turning) (result : Result (Unit {0}) Memory) (traced_now : Option (List LinkCall)) (new : Turning)
    → tells_now ≡ tells → refuses_now ≡ refuses → TakesPass step (known_of tells_now refuses_now before now) traced old result traced_now new → TakesPass step (known_of tells refuses before now) traced old result traced_now new
pass_as step tells tells_now refuses refuses_now before now traced old result traced_now new same_tells same_refuses takes =
    subst (λ r. TakesPass step (known_of tells r before now) traced old result traced_now new) same_refuses
    (subst (λ t. TakesPass step (known_of t refuses_now before now) traced old result traced_now new) same_tells takes)

-- ---- where memory runs out

module _ (serving : Serving) (fed : List FedRow) (links : List LinkState) where
  -- in the reads
  pub begun_reading : (made more : List LinkCall) (now rest : List FedRow) → AreUnmarked rest → (after : List LinkState) → Each (ReadStep serving false) [] fed links (made ++ more) (rest ++ now) after → IsServiceBegun serving fed links made now
  begun_reading made more now rest unmarked after each =
      let now_all : List FedRow = rest ++ now in
      let drained = each_total (DrainStep serving) (drain_total serving) [] now_all after in
      let written = each_total (WriteStep serving) (write_total serving) [] now_all drained.ts in
      record {
        more = more ++ (drained.made ++ written.made);
        rest = rest;
        unmarked = unmarked;
        after = written.ts;
        served = record {
          reads = made ++ more;
          drains = drained.made;
          writes = written.made;
          read = after;
          drained = drained.ts;
          calls_are = sym (append_assoc made more (drained.made ++ written.made));
          each_read = each;
          each_drain = drained.passed;
          each_write = written.passed;
        };
      }

  -- in the drains
  begun_draining : (reads made more : List LinkCall) (now rest : List FedRow) → AreUnmarked rest → (read after : List LinkState) → Each (ReadStep serving false) [] fed links reads (rest ++ now) read → Each (DrainStep serving) [] (rest ++ now) read (made ++ more) (rest ++ now) after
      → IsServiceBegun serving fed links (reads ++ made) now
  begun_draining reads made more now rest unmarked read after each_read each_drain =
      let now_all : List FedRow = rest ++ now in
      let written = each_total (WriteStep serving) (write_total serving) [] now_all after in
      record {
        more = more ++ written.made;
        rest = rest;
        unmarked = unmarked;
        after = written.ts;
        served = record {
          reads = reads;
          drains = made ++ more;
          writes = written.made;
          read = read;
          drained = after;
          calls_are = append_assoc reads made (more ++ written.made) ∙ ap (λ calls. reads ++ calls) (sym (append_assoc made more written.made));
          each_read = each_read;
          each_drain = each_drain;
          each_write = written.passed;
        };
      }

  -- in the writes
  begun_writing : (reads drains made more : List LinkCall) (now rest : List FedRow) → AreUnmarked rest → (read drained after : List LinkState) → Each (ReadStep serving false) [] fed links reads (rest ++ now) read → Each (DrainStep serving) [] (rest ++ now) read drains (rest ++ now) drained
      → Each (WriteStep serving) [] (rest ++ now) drained (made ++ more) (rest ++ now) after → IsServiceBegun serving fed links (reads ++ (drains ++ made)) now
  begun_writing reads drains made more now rest unmarked read drained after each_read each_drain each_write = record {
    more = more;
    rest = rest;
    unmarked = unmarked;
    after = after;
    served = record {
      reads = reads;
      drains = drains;
      writes = made ++ more;
      read = read;
      drained = drained;
      calls_are = append_assoc reads (drains ++ made) more ∙ ap (λ calls. reads ++ calls) (append_assoc drains made more);
      each_read = each_read;
      each_drain = each_drain;
      each_write = each_write;
    };
  }

-- the same lines in each pass
each_at : (step : Step) (links : List LinkState) (made : List LinkCall) (after : List LinkState) (fed fed_to now now_to : List FedRow) → fed ≡ fed_to → now ≡ now_to → Each step [] fed links made now after → Each step [] fed_to links made now_to after
each_at step links made after fed fed_to now now_to same same_now each = subst (λ fs. Each step [] fs links made now_to after) same (subst (λ fs. Each step [] fed links made fs after) same_now each)

module _ (tells : Option Pat) (refuses : Option (List ℕ → Bool)) (before first : ℕ) (traced : Option (List LinkCall)) (old : Turning) where
  pub cut_reads : (memory : Memory) (traced_now : Option (List LinkCall)) (new : Turning) → TakesPass (step_of passes.Reads) (known_of tells refuses before first) traced old (Err memory) traced_now new
      → ServesLinks (known_of tells refuses before first) traced old (Err memory) traced_now new
  cut_reads memory traced_now new takes config limits pat fed trace told holds config_is =
      let one = takes config limits pat fed trace told holds config_is in
      record {
        lines = one.lines;
        made = one.made;
        grew = one.grew;
        few = one.few;
        fair = one.fair;
        begins = λ told links at.
            let begun = one.begins told links at in
            begun_reading (serving_of config limits pat) fed links one.made begun.more (one.lines ++ fed) begun.rest begun.unmarked begun.after begun.each;
      }

  module _ (traced_read : Option (List LinkCall)) (read : Turning) (reads : TakesPass (step_of passes.Reads) (known_of tells refuses before first) traced old (Ok tt) traced_read read) where
    pub cut_found : (memory : Memory) (new : Turning) → ServesLinks (known_of tells refuses before first) traced old (Err memory) traced_read new
    cut_found memory new config limits pat fed trace told holds config_is =
        let one = reads config limits pat fed trace told holds config_is in
        let serving = serving_of config limits pat in
        record {
          lines = one.lines;
          made = one.made;
          grew = one.grew;
          few = one.is_fed.few;
          fair = one.is_fed.fair;
          begins = λ told links at.
              let done = one.passes told links at in
              begun_reading serving fed links one.made [] (one.lines ++ fed) [] tt done.after
              (subst (λ calls. Each (ReadStep serving false) [] fed links calls (one.lines ++ fed) done.after) (sym (append-nil one.made)) done.passed);
        }

    module _ (second : ℕ) (found : Turning) (same : found ≡ record read { to_drain = found.to_drain }) where
      hub_same : found.hub ≡ read.hub
      hub_same = ap (λ (t : Turning). t.hub) same

      pub cut_drains : (memory : Memory) (traced_now : Option (List LinkCall)) (new : Turning) → TakesPass (step_of passes.Drains) (known_of tells refuses first second) traced_read found (Err memory) traced_now new
          → ServesLinks (known_of tells refuses before second) traced old (Err memory) traced_now new
      cut_drains memory traced_now new takes config limits pat fed trace told holds config_is =
          let serving = serving_of config limits pat in
          let program = serve_of config limits pat in
          let one = reads config limits pat fed trace told holds config_is in
          let fed_one = fed_to config limits pat (known_of tells refuses before first) fed one.lines old read found hub_same one.is_fed in
          let two = takes config limits pat (one.lines ++ fed) (trace ++ one.made) one.grew fed_one.holds (fed_one.same_config ∙ config_is) in
          let joined = append_assoc two.lines one.lines fed in
          record {
            lines = two.lines ++ one.lines;
            made = one.made ++ two.made;
            grew = two.grew ∙ ap Some (append_assoc trace one.made two.made);
            few = few_then two.lines one.lines before first second one.is_fed.few two.few;
            fair = fair_then config limits pat tells refuses (known_of tells refuses before second) fed one.lines two.lines one.is_fed.fair two.fair;
            begins = λ told links at.
                let done = one.passes (told_early config limits pat tells two.lines one.lines told) links at in
                let at_two = at_found config limits pat (one.lines ++ fed) done.after (trace ++ one.made) read found same done.at in
                let begun = two.begins (told_late config limits pat tells two.lines one.lines told) done.after at_two in
                let last : List FedRow = begun.rest ++ (two.lines ++ (one.lines ++ fed)) in
                let quiet = drain_same serving (one.lines ++ fed) done.after (two.made ++ begun.more) last begun.after begun.each in
                let now : List FedRow = begun.rest ++ ((two.lines ++ one.lines) ++ fed) in
                let last_is : last ≡ now = ap (λ fs. begun.rest ++ fs) (sym joined) in
                let to_now = sym quiet ∙ last_is in
                begun_draining serving fed links one.made two.made begun.more ((two.lines ++ one.lines) ++ fed) begun.rest begun.unmarked done.after begun.after
                (each_at (ReadStep serving false) links one.made done.after fed fed (one.lines ++ fed) now refl to_now done.passed)
                (each_at (DrainStep serving) done.after (two.made ++ begun.more) begun.after (one.lines ++ fed) now last now to_now last_is begun.each);
          }

      module _ (traced_drained : Option (List LinkCall)) (drained : Turning) (drains : TakesPass (step_of passes.Drains) (known_of tells refuses first second) traced_read found (Ok tt) traced_drained drained) (third : ℕ) where
        pub cut_writes : (memory : Memory) (traced_now : Option (List LinkCall)) (new : Turning) → TakesPass (step_of passes.Writes) (known_of tells refuses second third) traced_drained drained (Err memory) traced_now new
            → ServesLinks (known_of tells refuses before third) traced old (Err memory) traced_now new
        cut_writes memory traced_now new takes config limits pat fed trace told holds config_is =
            let serving = serving_of config limits pat in
            let program = serve_of config limits pat in
            let one = reads config limits pat fed trace told holds config_is in
            let fed_one = fed_to config limits pat (known_of tells refuses before first) fed one.lines old read found hub_same one.is_fed in
            let two = drains config limits pat (one.lines ++ fed) (trace ++ one.made) one.grew fed_one.holds (fed_one.same_config ∙ config_is) in
            let early : List FedRow = two.lines ++ one.lines in
            let both = fed_then config limits pat tells refuses before first second fed one.lines two.lines old found drained fed_one two.is_fed in
            let middle = append_assoc two.lines one.lines fed in
            let three = takes config limits pat (two.lines ++ (one.lines ++ fed)) ((trace ++ one.made) ++ two.made) two.grew two.is_fed.holds (both.same_config ∙ config_is) in
            let joined = append_assoc three.lines early fed ∙ ap (λ fs. three.lines ++ fs) middle in
            record {
              lines = three.lines ++ early;
              made = one.made ++ (two.made ++ three.made);
              grew = three.grew ∙ ap Some (append_assoc (trace ++ one.made) two.made three.made ∙ append_assoc trace one.made (two.made ++ three.made));
              few = few_then three.lines early before second third both.few three.few;
              fair = λ fair. subst (λ fs. AreFair program (facts_in (known_of tells refuses before third)) (rows_fed fs)) (sym joined) (three.fair (two.is_fed.fair (one.is_fed.fair fair)));
              begins = λ told links at.
                  let told_two = told_early config limits pat tells three.lines early told in
                  let done = one.passes (told_early config limits pat tells two.lines one.lines told_two) links at in
                  let at_two = at_found config limits pat (one.lines ++ fed) done.after (trace ++ one.made) read found same done.at in
                  let again = two.passes (told_late config limits pat tells two.lines one.lines told_two) done.after at_two in
                  let begun = three.begins (told_late config limits pat tells three.lines early told) again.after again.at in
                  let quiet = drain_same serving (one.lines ++ fed) done.after two.made (two.lines ++ (one.lines ++ fed)) again.after again.passed in
                  let last : List FedRow = begun.rest ++ (three.lines ++ (two.lines ++ (one.lines ++ fed))) in
                  let quiet_too = write_same serving (two.lines ++ (one.lines ++ fed)) again.after (three.made ++ begun.more) last begun.after begun.each in
                  let now : List FedRow = begun.rest ++ ((three.lines ++ early) ++ fed) in
                  let last_is : last ≡ now = ap (λ fs. begun.rest ++ fs) (sym joined) in
                  let from_two = sym quiet_too ∙ last_is in
                  let from_one = sym quiet ∙ from_two in
                  begun_writing serving fed links one.made two.made three.made begun.more ((three.lines ++ early) ++ fed) begun.rest begun.unmarked done.after again.after begun.after
                  (each_at (ReadStep serving false) links one.made done.after fed fed (one.lines ++ fed) now refl from_one done.passed)
                  (each_at (DrainStep serving) done.after two.made again.after (one.lines ++ fed) now (two.lines ++ (one.lines ++ fed)) now from_one from_two again.passed)
                  (each_at (WriteStep serving) again.after (three.made ++ begun.more) begun.after (two.lines ++ (one.lines ++ fed)) now last now from_two last_is begun.each);
            }

        pub serves_all : (traced_now : Option (List LinkCall)) (new : Turning) → TakesPass (step_of passes.Writes) (known_of tells refuses second third) traced_drained drained (Ok tt) traced_now new
            → ServesLinks (known_of tells refuses before third) traced old (Ok tt) traced_now new
        serves_all traced_now new takes config limits pat fed trace told holds config_is =
            let serving = serving_of config limits pat in
            let program = serve_of config limits pat in
            let one = reads config limits pat fed trace told holds config_is in
            let fed_one = fed_to config limits pat (known_of tells refuses before first) fed one.lines old read found hub_same one.is_fed in
            let two = drains config limits pat (one.lines ++ fed) (trace ++ one.made) one.grew fed_one.holds (fed_one.same_config ∙ config_is) in
            let early : List FedRow = two.lines ++ one.lines in
            let both = fed_then config limits pat tells refuses before first second fed one.lines two.lines old found drained fed_one two.is_fed in
            let middle = append_assoc two.lines one.lines fed in
            let three = takes config limits pat (two.lines ++ (one.lines ++ fed)) ((trace ++ one.made) ++ two.made) two.grew two.is_fed.holds (both.same_config ∙ config_is) in
            let joined = append_assoc three.lines early fed ∙ ap (λ fs. three.lines ++ fs) middle in
            let calls_joined = append_assoc (trace ++ one.made) two.made three.made ∙ append_assoc trace one.made (two.made ++ three.made) in
            record {
              lines = three.lines ++ early;
              made = one.made ++ (two.made ++ three.made);
              grew = three.grew ∙ ap Some calls_joined;
              is_fed = fed_then config limits pat tells refuses before second third fed early three.lines old drained new both
                  (subst (λ fs. IsFed config limits pat (known_of tells refuses second third) fs three.lines drained new) (sym middle) three.is_fed);
              serves = λ told links at.
                  let told_two = told_early config limits pat tells three.lines early told in
                  let done = one.passes (told_early config limits pat tells two.lines one.lines told_two) links at in
                  let at_two = at_found config limits pat (one.lines ++ fed) done.after (trace ++ one.made) read found same done.at in
                  let again = two.passes (told_late config limits pat tells two.lines one.lines told_two) done.after at_two in
                  let last = three.passes (told_late config limits pat tells three.lines early told) again.after again.at in
                  let quiet = drain_same serving (one.lines ++ fed) done.after two.made (two.lines ++ (one.lines ++ fed)) again.after again.passed in
                  let quiet_too = write_same serving (two.lines ++ (one.lines ++ fed)) again.after three.made (three.lines ++ (two.lines ++ (one.lines ++ fed))) last.after last.passed in
                  let now : List FedRow = (three.lines ++ early) ++ fed in
                  let from_two = sym quiet_too ∙ sym joined in
                  let from_one = sym quiet ∙ from_two in
                  record {
                    after = last.after;
                    served = record {
                      reads = one.made;
                      drains = two.made;
                      writes = three.made;
                      read = done.after;
                      drained = again.after;
                      calls_are = refl;
                      each_read = each_at (ReadStep serving false) links one.made done.after fed fed (one.lines ++ fed) now refl from_one done.passed;
                      each_drain = each_at (DrainStep serving) done.after two.made again.after (one.lines ++ fed) now (two.lines ++ (one.lines ++ fed)) now from_one from_two again.passed;
                      each_write = each_at (WriteStep serving) again.after three.made last.after (two.lines ++ (one.lines ++ fed)) now (three.lines ++ (two.lines ++ (one.lines ++ fed))) now from_two (sym joined) last.passed;
                    };
                    at = subst (λ fs. IsAt config limits pat fs last.after (trace ++ (one.made ++ (two.made ++ three.made))) new) (sym joined)
                        (subst (λ calls. IsAt config limits pat (three.lines ++ (two.lines ++ (one.lines ++ fed))) last.after calls new) calls_joined last.at);
                  };
            }

        pub serves_last : (result : Result (Unit {0}) Memory) (traced_now : Option (List LinkCall)) (new : Turning) → TakesPass (step_of passes.Writes) (known_of tells refuses second third) traced_drained drained result traced_now new
            → ServesLinks (known_of tells refuses before third) traced old result traced_now new
        serves_last (Ok done) traced_now new takes = serves_all traced_now new takes
        serves_last (Err memory) traced_now new takes = cut_writes memory traced_now new takes
