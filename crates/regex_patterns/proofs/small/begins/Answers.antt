use Rattle.std.proofs.lemmas.Str.{IsCharBoundary-start}
use Rattle.regex_patterns.proofs.small.begins.Goals as goal

pub returns-clause-whole : goal.returns-clause-whole
returns-clause-whole c = IsCharBoundary-start c.args.text.now c.utf8.text
