-- Links whose bytes are computed by the definitions, with the usual limits.
use Rattle.std.proofs.Common.{◌≡◌, List, [], ◌∷◌, ◌++◌, Ok, Err, refl}
use Rattle.std.specs.Prelude.{codes}
use Rattle.mesh_base.specs.Limits.{usual_limits}
use Rattle.view_types.specs.declared.config.Config.{Config}
use Rattle.view_types.specs.declared.query.Query.{Query}
use Rattle.session_core.specs.Paths.{path_of}
use Rattle.session_core.specs.Phases.{asked_before, phase_of}
use Rattle.session_core.specs.Pieces.{answers, given_first}
use Rattle.session_core.specs.declared.session.Ask.TheVariants as asks
use Rattle.session_core.specs.declared.session.SessionFault.TheVariants.{BadPath, Extra}

-- a feed of `{`, an empty line and `G`
feed_lines : (config : Config) → answers config usual_limits given_first ((codes "/feed" ++ 10 ∷ 123 ∷ 10 ∷ 10 ∷ []) ∷ (71 ∷ 10 ∷ []) ∷ []) ≡ Ok (asks.FeedBegins ∷ asks.Line 1 (123 ∷ []) ∷ asks.Line 2 [] ∷ []) ∷ Ok (asks.Line 3 (71 ∷ []) ∷ []) ∷ []
unfolding phase_of path_of
feed_lines config = refl

-- the path line a byte at a time
feed_bytes : (config : Config) → answers config usual_limits given_first ((47 ∷ []) ∷ codes "fee" ∷ codes "d" ∷ (10 ∷ []) ∷ (83 ∷ []) ∷ (10 ∷ []) ∷ []) ≡ Ok [] ∷ Ok [] ∷ Ok [] ∷ Ok (asks.FeedBegins ∷ []) ∷ Ok [] ∷ Ok (asks.Line 1 (83 ∷ []) ∷ []) ∷ []
unfolding phase_of path_of
feed_bytes config = refl

-- a link that ends without a byte, and pieces after its end
empty_link : (config : Config) → answers config usual_limits given_first ([] ∷ codes "/x" ∷ [] ∷ []) ≡ Ok (asks.Ended ∷ []) ∷ Ok [] ∷ Ok [] ∷ []
unfolding phase_of path_of
empty_link config = refl

-- another path, and what follows its fault
bad_path : (config : Config) → answers config usual_limits given_first ((codes "/x" ++ 10 ∷ []) ∷ codes "/feed" ∷ [] ∷ []) ≡ Err BadPath ∷ Err BadPath ∷ Err BadPath ∷ []
unfolding phase_of path_of
bad_path config = refl

-- bytes after a request that reads
extra : (query : Query) → asked_before (Ok query) (0 ∷ []) ≡ Err Extra
extra query = refl
