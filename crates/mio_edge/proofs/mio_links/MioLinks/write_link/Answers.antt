use Rattle.std.proofs.Common.{◌≡◌, ◌<◌, HoldsAt, length, refl, subst, sym, ap, ◌∙◌}
use Rattle.mio_edge.proofs.Kept.{fault_kept}
use Rattle.mio_edge.proofs.mio_links.MioLinks.write_link.Goals as goal

pub returns-in_default-clause-cause : goal.returns-in_default-clause-cause
returns-in_default-clause-cause g c = fault_kept _ _ _ _ _ _ c.failed.ensures.faults c.failed.ensures.pendings c.failed.ensures.later c.failed.ensures.none

pub returns-in-Ok-2-clause-cause : goal.returns-in-Ok-2-clause-cause
returns-in-Ok-2-clause-cause g c = fault_kept _ _ _ _ _ _ c.failed-in-Ok-2.ensures.faults c.failed-in-Ok-2.ensures.pendings c.failed-in-Ok-2.ensures.later c.failed-in-Ok-2.ensures.none

pub returns-in-Err-clause-cause : goal.returns-in-Err-clause-cause
returns-in-Err-clause-cause g c = fault_kept _ _ _ _ _ _ c.fault.ensures.faults c.fault.ensures.pendings c.fault.ensures.later c.fault.ensures.none

pub returns-in-Ok-clause-stream : goal.returns-in-Ok-clause-stream
returns-in-Ok-clause-stream g c =
    let items = c.as_slice.ensures.value in
    let within = subst (λ links. c.in-Some.at < length links) items c.in-Some.ensures.within in
    let found = subst (λ links. HoldsAt (λ one. one.number ≡ c.args.link) links c.in-Some.at) items c.in-Some.ensures.number in
    let number = ap (λ one. one.number) c.index_mut.ensures.value ∙ found c.index_mut.result.now in
    record {
      place = c.in-Some.at;
      old = c.index_mut.result.now;
      new = c.write.new.self;
      within = within;
      stood = sym c.index_mut.ensures.value;
      number = number;
      same_number = c.write.ensures.number ∙ number;
      others = refl;
      step = c.in-Ok.ensures.bytes;
    }
