use Rattle.std.proofs.Common.{◌≡◌, None, Some, rules, sym, ◌∙◌}
use Rattle.mark_rules.specs.Rows.{endpoint_row}
use Rattle.endpoint_streams.specs.Streams.{endpoints_at, frames_to}
use Rattle.row_views.specs.Ids.{key_at}
use Rattle.shared_endpoints.specs.ByKey.{SetsAt, streams_at}
use Rattle.shared_endpoints.specs.Standing.{key_of_id, row_at, shown_to_id}
use Rattle.shared_endpoints.proofs.ByKey.{err_then, ok_when, puts_one}
use Rattle.shared_endpoints.proofs.Standing.{drain_each, drain_fails, has_row, has_some, now_frames, now_sets, now_stands, row_there}
use Rattle.row_views.proofs.Truncated.{map_truncated}
use Rattle.shared_endpoints.proofs.Truncated.{frames_or_memory, orderly_now, same_results, same_views}
use Rattle.shared_endpoints.proofs.shared.SharedEndpointsEndpointStreams.drain.Goals as goal

pub returns-in_default-clause-stands : goal.returns-in_default-clause-stands
returns-in_default-clause-stands c = λ config limits held old. map_truncated old (λ s. record { stands = s.stands; each = s.each })

pub returns-in_default-row-clause-stands : goal.returns-in_default-row-clause-stands
returns-in_default-row-clause-stands c = λ config limits held old. map_truncated old (λ s. record { stands = s.stands; each = s.each })

pub returns-in_default-row-clause-frames : goal.returns-in_default-row-clause-frames
returns-in_default-row-clause-frames c = λ config limits held old.
    let self = c.args.self.now in
    let key = c.in-Some.key.now in
    let is : key_at self.by_id c.args.id ≡ Some key = sym c.in-Some.ensures.value in
    let none : row_at self.index key ≡ None = search rules in
    same_results _ _ old (λ s. absurd (has_row config limits held self.index self.by_key self.by_id self.limits s.stands c.args.id key is none))

pub returns-in_default-row-clause-shown : goal.returns-in_default-row-clause-shown
returns-in_default-row-clause-shown c = λ config limits held old n.
    let self = c.args.self.now in
    let key = c.in-Some.key.now in
    let is : key_at self.by_id c.args.id ≡ Some key = sym c.in-Some.ensures.value in
    let none : row_at self.index key ≡ None = search rules in
    same_views _ _ old (λ s. absurd (has_row config limits held self.index self.by_key self.by_id self.limits s.stands c.args.id key is none))

pub drain-requires-clause-now : goal.drain-requires-clause-now
drain-requires-clause-now c =
    let self = c.args.self.now in
    let key = c.in-Some.key.now in
    let now = c.in-Some-row.now.now in
    let is : key_at self.by_id c.args.id ≡ Some key = sym c.in-Some.ensures.value in
    let st = c.requires.standing in
    let same : Some now ≡ Some (endpoint_row st.0 st.2 key) = same_views _ _ st.3 (λ s. c.in-Some-row.ensures ∙ row_there st.0 st.1 st.2 self.index self.by_key self.by_id self.limits s.stands c.args.id key is) in
    orderly_now c.endpoints_are_orderly.ensures now st.0 st.2 key same

pub returns-in-Some-get_mut-clause-frames : goal.returns-in-Some-get_mut-clause-frames
returns-in-Some-get_mut-clause-frames c = λ config limits held old.
    let self = c.args.self.now in
    let key = c.in-Some.key.now in
    let streams = c.in-Some-get_mut.streams.now in
    let drained = c.drain.new.streams in
    let new = c.get_mut.follows.lender drained in
    let is : key_at self.by_id c.args.id ≡ Some key = sym c.in-Some.ensures.value in
    let there : streams_at self.by_key key ≡ Some streams = sym c.in-Some-get_mut.ensures.value in
    frames_or_memory (frames_to limits (shown_to_id self c.args.id) (endpoints_at config held (key_of_id self c.args.id))) c.drain.result old (λ s.
    now_frames config limits held self.index self.by_key new self.by_id self.limits c.args.id key streams drained is there (puts_one key streams drained self.by_key new there (c.get_mut.follows.holds drained)) c.drain.ensures.«open» s.stands
    c.in-Some-row.now.now (sym c.in-Some-row.ensures) c.drain.result c.drain.ensures.frames)

pub returns-in-Some-get_mut-clause-shown : goal.returns-in-Some-get_mut-clause-shown
returns-in-Some-get_mut-clause-shown c =
    let self = c.args.self.now in
    let key = c.in-Some.key.now in
    let streams = c.in-Some-get_mut.streams.now in
    let drained = c.drain.new.streams in
    let new = c.get_mut.follows.lender drained in
    let is : key_at self.by_id c.args.id ≡ Some key = sym c.in-Some.ensures.value in
    let there : streams_at self.by_key key ≡ Some streams = sym c.in-Some-get_mut.ensures.value in
    ok_when c.drain.result c.drain.ensures.shown (λ shown config limits held old n.
    same_views _ _ old (λ s.
    now_sets config limits held self.index self.by_key new self.by_id self.limits c.args.id key streams drained is there (puts_one key streams drained self.by_key new there (c.get_mut.follows.holds drained)) c.drain.ensures.«open» s.stands
    c.in-Some-row.now.now (sym c.in-Some-row.ensures) c.drain.ensures.right shown n))

pub returns-in-Some-get_mut-clause-kept : goal.returns-in-Some-get_mut-clause-kept
returns-in-Some-get_mut-clause-kept c =
    let self = c.args.self.now in
    let key = c.in-Some.key.now in
    let streams = c.in-Some-get_mut.streams.now in
    let drained = c.drain.new.streams in
    let new = c.get_mut.follows.lender drained in
    let there : streams_at self.by_key key ≡ Some streams = sym c.in-Some-get_mut.ensures.value in
    err_then c.drain.result c.drain.ensures.kept (λ same n.
    drain_fails self.index self.by_key new self.by_id key streams drained c.in-Some-row.now.now (sym c.in-Some-row.ensures) there (puts_one key streams drained self.by_key new there (c.get_mut.follows.holds drained)) c.drain.ensures.«open» same n)

pub returns-in-Some-get_mut-clause-stands : goal.returns-in-Some-get_mut-clause-stands
returns-in-Some-get_mut-clause-stands c = λ config limits held old.
    let self = c.args.self.now in
    let key = c.in-Some.key.now in
    let streams = c.in-Some-get_mut.streams.now in
    let drained = c.drain.new.streams in
    let new = c.get_mut.follows.lender drained in
    let is : key_at self.by_id c.args.id ≡ Some key = sym c.in-Some.ensures.value in
    let there : streams_at self.by_key key ≡ Some streams = sym c.in-Some-get_mut.ensures.value in
    let puts : SetsAt key (Some drained) self.by_key new = puts_one key streams drained self.by_key new there (c.get_mut.follows.holds drained) in
    map_truncated old (λ s.
    record {
      stands = now_stands config limits held self.index self.by_key new self.by_id self.limits c.args.id key streams drained is there puts c.drain.ensures.«open» s.stands
          c.in-Some-row.now.now (sym c.in-Some-row.ensures) c.drain.ensures.right;
      each = drain_each key self.by_key new streams drained there puts c.drain.ensures.«open» s.each;
    })

pub returns-in-None-clause-frames : goal.returns-in-None-clause-frames
returns-in-None-clause-frames c = λ config limits held old.
    let self = c.args.self.now in
    let key = c.in-Some.key.now in
    let is : key_at self.by_id c.args.id ≡ Some key = sym c.in-Some.ensures.value in
    let none : streams_at self.by_key key ≡ None = sym c.in-None.ensures.value in
    same_results _ _ old (λ s. absurd (has_some config limits held self.index self.by_key self.by_id self.limits s.stands c.args.id key is none))

pub returns-in-None-clause-shown : goal.returns-in-None-clause-shown
returns-in-None-clause-shown c = λ config limits held old n.
    let self = c.args.self.now in
    let key = c.in-Some.key.now in
    let is : key_at self.by_id c.args.id ≡ Some key = sym c.in-Some.ensures.value in
    let none : streams_at self.by_key key ≡ None = sym c.in-None.ensures.value in
    same_views _ _ old (λ s. absurd (has_some config limits held self.index self.by_key self.by_id self.limits s.stands c.args.id key is none))

pub returns-in-None-clause-stands : goal.returns-in-None-clause-stands
returns-in-None-clause-stands c = λ config limits held old.
    let self = c.args.self.now in
    let key = c.in-Some.key.now in
    let is : key_at self.by_id c.args.id ≡ Some key = sym c.in-Some.ensures.value in
    let none : streams_at self.by_key key ≡ None = sym c.in-None.ensures.value in
    map_truncated old (λ s. absurd (has_some config limits held self.index self.by_key self.by_id self.limits s.stands c.args.id key is none))
