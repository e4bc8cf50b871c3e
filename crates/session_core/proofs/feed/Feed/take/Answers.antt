use Rattle.std.proofs.Common.{◌≡◌, ◌+◌, [], ◌∷◌, ◌++◌, ap, ◌∙◌, sym, subst, arith}
use Rattle.line_run.specs.Rows.{row_of, rows_of}
use Rattle.line_run.proofs.Progress.{at_some}
use Rattle.session_core.specs.Feeds.{FeedPart, Takes}
use Rattle.session_core.specs.Pieces.{line_ask}
use Rattle.session_core.proofs.FeedLines.{takes_line}
use Rattle.session_core.proofs.feed.Feed.take.Goals as goal

pub loop-found-preserved : goal.loop-found-preserved
loop-found-preserved c =
    let is = c.loop-found.invariant in
    let fewer = at_some c.in-Ok.found c.in-Some.after _ c.in-Some.is c.in-Ok.ensures.fewer in
    let line = at_some c.in-Ok.found c.in-Some.after _ c.in-Some.is c.in-Ok.ensures.line in
    let part : c.loop-found.self.part ≡ c.self.inside.cutter.part.items = ap (λ (feed : FeedPart). feed.part) (sym c.self.view_is) in
    let lines : c.self.inside.lines ≡ c.loop-found.self.lines = ap (λ (feed : FeedPart). feed.lines) c.self.view_is in
    let counts : c.give.new.self.lines ≡ c.loop-found.self.lines + 1 = c.in_ok-give.ensures.lines ∙ ap (λ n. n + 1) lines in
    let asked : c.give.new.asks ≡ c.loop-found.asks ++ line_ask (c.loop-found.self.lines + 1) (row_of c.args.limit c.take.new.self.part.items) ∷ [] = c.in_ok-give.ensures.asks ∙ ap (λ n. c.loop-found.asks ++ line_ask (n + 1) (row_of c.args.limit c.take.new.self.part.items) ∷ []) lines in
    let empty : c.give.new.self.part ≡ [] = c.in_ok-give.ensures.part in
    let taken = takes_line c.args.limit c.args.self.now.part c.args.self.now.lines c.args.asks.now c.args.piece.now _ c.loop-found.self.lines c.loop-found.asks (row_of c.args.limit c.take.new.self.part.items) c.in-Some.after.now c.give.new.self.lines c.give.new.asks is.takes (λ more. ap (λ z. rows_of c.args.limit ((z ++ c.loop-found.rest.now) ++ more)) part ∙ line more) counts asked in
    record {
      lines = omega (arith, is.lines, counts, fewer);
      takes = subst (λ part. Takes c.args.limit c.args.self.now.part c.args.self.now.lines c.args.asks.now c.args.piece.now (part ++ c.in-Some.after.now) c.give.new.self.lines c.give.new.asks) (sym empty) taken;
    }
