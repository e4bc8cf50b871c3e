-- Folding a batch gives the new view, whatever was shown before.
use Rattle.std.proofs.Common.{◌≡◌, Option, Some, refl, ap}
use Rattle.view_types.specs.declared.message.Message.TheVariants.{Profile as WholeProfile, Server as WholeServer, Outbound as WholeOutbound}
use Rattle.view_types.specs.declared.outbound.OutboundView.{OutboundView}
use Rattle.view_types.specs.declared.outbound.ProfileView.{ProfileView}
use Rattle.view_types.specs.declared.server_view.ServerView.{ServerView}
use Rattle.view_types.specs.declared.view.View.{View}
use Rattle.view_types.specs.declared.view.View.TheVariants.{Endpoints, Profile, Server, Outbound, ServerRows}
use Rattle.view_rules.specs.Batch.{outbound_in, profile_in, server_in}
use Rattle.view_rules.specs.Same.{same_profile}
use Rattle.view_rules.specs.SamePolicies.{same_outbound, same_server}
use Rattle.view_rules.proofs.SamePolicies.{outbound_decides, server_decides}
use Rattle.view_rules.proofs.SameProfile.{profile_decides}
use Rattle.batch_laws.specs.Laws.{BatchesFold}
use Rattle.batch_laws.proofs.FoldsBack.{endpoints_fold}
use Rattle.batch_laws.proofs.PortsFold.{port_fold}
use Rattle.batch_laws.proofs.WholeFolds.{whole_folds}

profile_was : (old : Option View) (v : ProfileView) → profile_in old ≡ Some v → old ≡ Some (Profile v)
profile_was (Some (Profile w)) v e = let same : w ≡ v = cc e in ap (λ v. Some (Profile v)) same
profile_was _ v e = absurd (cc e)

server_was : (old : Option View) (v : ServerView) → server_in old ≡ Some v → old ≡ Some (Server v)
server_was (Some (Server w)) v e = let same : w ≡ v = cc e in ap (λ v. Some (Server v)) same
server_was _ v e = absurd (cc e)

outbound_was : (old : Option View) (v : OutboundView) → outbound_in old ≡ Some v → old ≡ Some (Outbound v)
outbound_was (Some (Outbound w)) v e = let same : w ≡ v = cc e in ap (λ v. Some (Outbound v)) same
outbound_was _ v e = absurd (cc e)

pub batches_fold : BatchesFold
batches_fold old (Endpoints new) limits one is_old is = endpoints_fold limits.frame_addrs old new.exists new.rows one is_old is
batches_fold old (Profile new) limits one is_old is = whole_folds Profile same_profile WholeProfile profile_decides new (λ shown. refl) old (profile_in old) (profile_was old)
batches_fold old (Server new) limits one is_old is = whole_folds Server same_server WholeServer server_decides new (λ shown. refl) old (server_in old) (server_was old)
batches_fold old (Outbound new) limits one is_old is = whole_folds Outbound same_outbound WholeOutbound outbound_decides new (λ shown. refl) old (outbound_in old) (outbound_was old)
batches_fold old (ServerRows new) limits one is_old is = port_fold limits.frame_addrs one old new is_old is
