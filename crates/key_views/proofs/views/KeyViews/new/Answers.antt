use Rattle.row_views.proofs.Standing.{moved_kept}
use Rattle.key_views.proofs.views.KeyViews.new.Goals as goal

pub returns-clause-stands : goal.returns-clause-stands
returns-clause-stands g c = λ config held filtered stands. ∣ moved_kept c.new.ensures.index (c.new.ensures.stands held stands) filtered ∣₁
