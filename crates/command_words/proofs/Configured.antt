-- The names of a configuration that words give are strings in UTF-8: they are names of Kubernetes, whose bytes are ASCII.
use Rattle.std.proofs.Common.{◌≡◌, ℕ, Bool, true, false, cond, List, [], ◌∷◌, Option, Some, None, codes, refl, subst}
use Rattle.std.specs.Prelude.{IfSome}
use lib.Utf8.{encode}
use Rattle.std.specs.Str.{IsUtf8, chars, is_utf8}
use Rattle.std.proofs.lemmas.Str.{IsUtf8-from_is_utf8}
use Rattle.clap.specs.Words.{Row}
use Rattle.k8s_meta.specs.Scalars.{is_name}
use Rattle.mesh_text.proofs.Names.{name_ascii}
use Rattle.view_types.specs.Defaults.{usual_config}
use Rattle.view_types.specs.declared.config.Config.{Config}
use Rattle.command_words.specs.Apps.{matched, name_of}
use Rattle.command_words.specs.Arguments.{text_at}
use Rattle.command_words.specs.Commands.{command_in, command_named, command_of, diagnose_in, fold_in, replay_in, sample_in, serve_in}
use Rattle.command_words.specs.Configured.{ConfigIs}
use Rattle.command_words.specs.Gives.{defaulted, then}
use Rattle.command_words.specs.Settings.{config_in, named}
use Rattle.command_words.specs.declared.argument.Argument.TheVariants as arguments
use Rattle.command_words.specs.declared.command.Command.{Command}
use Rattle.command_words.specs.declared.command.Name.{Name}
use Rattle.command_words.specs.declared.command.Name.TheVariants as names

-- ---- one value after another

then_if : {A B : Type 0} (o : Option A) (f : A → Option B) (P : A → Type 0) (Q : B → Type 0) → IfSome o P → ((x : A) → P x → IfSome (f x) Q) → IfSome (then o f) Q
unfolding then
then_if None f P Q holds next = tt
then_if (Some x) f P Q holds next = next x holds

then_any : {A B : Type 0} (o : Option A) (f : A → Option B) (Q : B → Type 0) → ((x : A) → IfSome (f x) Q) → IfSome (then o f) Q
unfolding then
then_any None f Q next = tt
then_any (Some x) f Q next = next x

-- ---- names

if_checked : (test : Bool) (text : List ℕ) → (test ≡ true → IsUtf8 text) → IfSome (cond test (Some text) None) IsUtf8
if_checked true text good = good refl
if_checked false text good = tt

defaulted_is_text : (usual : List ℕ) (given : Option (List ℕ)) → IsUtf8 usual → IfSome (defaulted usual named given) IsUtf8
defaulted_is_text usual None good = good
defaulted_is_text usual (Some text) good = if_checked (is_name text) text (name_ascii text)

domain_is_text : IsUtf8 (codes "cluster.local")
unfolding is_utf8 chars encode
domain_is_text = IsUtf8-from_is_utf8 (codes "cluster.local") refl

ns_is_text : IsUtf8 (codes "linkerd")
unfolding is_utf8 chars encode
ns_is_text = IsUtf8-from_is_utf8 (codes "linkerd") refl

-- ---- configurations

-- whatever holds of each configuration whose names are in UTF-8
module _ (P : Config → Type 0) (of_texts : (config : Config) → IsUtf8 config.cluster_domain → IsUtf8 config.trust_domain → IsUtf8 config.control_ns → P config) where
  config_is : (rows : List Row) → IfSome (config_in rows) P
  unfolding config_in
  config_is rows =
      then_if _ _ IsUtf8 P (defaulted_is_text usual_config.cluster_domain (text_at arguments.ClusterDomain rows) domain_is_text) (λ domain domain_good.
      then_if _ _ IsUtf8 P (defaulted_is_text usual_config.trust_domain (text_at arguments.TrustDomain rows) domain_is_text) (λ trust trust_good.
      then_if _ _ IsUtf8 P (defaulted_is_text usual_config.control_ns (text_at arguments.ControlPlaneNamespace rows) ns_is_text) (λ ns ns_good.
      then_any _ _ P (λ nets.
      then_any _ _ P (λ policy.
      of_texts (record { cluster_domain = domain; trust_domain = trust; control_ns = ns; cluster_nets = nets; default_policy = policy }) domain_good trust_good ns_good)))))

  command_is : (name : Name) (rows : List Row) → IfSome (command_of name rows) (ConfigIs P)
  unfolding command_of replay_in diagnose_in fold_in sample_in serve_in
  command_is names.Replay rows = then_if (config_in rows) _ P (ConfigIs P) (config_is rows) (λ config good. good)
  command_is names.Diagnose rows =
      then_any _ _ (ConfigIs P) (λ id.
      then_any _ _ (ConfigIs P) (λ method.
      then_if (config_in rows) _ P (ConfigIs P) (config_is rows) (λ config good.
      then_any _ _ (ConfigIs P) (λ query. good))))
  command_is names.Fold rows = then_any _ _ (ConfigIs P) (λ id. then_any _ _ (ConfigIs P) (λ method. tt))
  command_is names.Sample rows = then_any _ _ (ConfigIs P) (λ n. then_if (config_in rows) _ P (ConfigIs P) (config_is rows) (λ config good. good))
  command_is names.Serve rows = then_any _ _ (ConfigIs P) (λ address. then_if (config_in rows) _ P (ConfigIs P) (config_is rows) (λ config good. good))

  named_is : (name : Option Name) (words : List (List ℕ)) → IfSome (command_named name words) (ConfigIs P)
  named_is None words = tt
  named_is (Some name) words = then_any (matched name words) (command_of name) (ConfigIs P) (command_is name)

  asked_is : (words : List (List ℕ)) → IfSome (command_in words) (ConfigIs P)
  asked_is [] = tt
  asked_is (first ∷ rest) = named_is (name_of first) rest

  pub given_config_is : (words : List (List ℕ)) (command : Command) → command_in words ≡ Some command → ConfigIs P command
  given_config_is words command is = subst (λ (o : Option Command). IfSome o (ConfigIs P)) is (asked_is words)
