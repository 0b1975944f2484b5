-- What the names of a script are called. A name is called after its hint where no other is; each other has its number behind it.
use Rattle.std.specs.Prelude.{ℕ, ◌+◌, ◌==◌, nat_eq, cond, if◌then◌else◌, max, replicate, codes, decimal, Bool, not, ◌&&◌, ◌||◌, List, [], ◌∷◌, ◌++◌, map, Option, None, Some}
use Rattle.std.specs.List.{list_any, flat_map}
use Rattle.es_outside.specs.HostNames.{is_ascii_identifier, is_among, kept_globals, known_globals, reserved_words, special_names}
use Rattle.es5_ast.specs.declared.tree.Element5.{Element5}
use Rattle.es5_ast.specs.declared.tree.Expr5.{Expr5}
use Rattle.es5_ast.specs.declared.tree.ForFirst5.{ForFirst5}
use Rattle.es5_ast.specs.declared.tree.Link5.{Link5}
use Rattle.es5_ast.specs.declared.tree.Property5.{Property5}
use Rattle.es5_ast.specs.declared.tree.Stat5.{Stat5, out-Stat5}
use Rattle.es5_ast.specs.declared.tree.Block5.{Block5}
use Rattle.es5_ast.specs.declared.tree.Case5.{Case5}
use Rattle.es5_ast.specs.declared.tree.Catch5.{Catch5}
use Rattle.es5_ast.specs.declared.tree.Condition5.{Condition5}
use Rattle.es5_ast.specs.declared.tree.Declared5.{Declared5, out-Declared5}
use Rattle.es5_ast.specs.declared.tree.Function5.{Function5, out-Function5}
use Rattle.es5_ast.specs.declared.tree.Identifier5.{Identifier5}
use Rattle.es5_ast.specs.declared.tree.Operand5.{Operand5}
use Rattle.es5_ast.specs.declared.tree.Element5.TheOpen as layer
use Rattle.es5_ast.specs.declared.tree.Element5.TheOpen.{Stat5-F}
use Rattle.binding_tables.specs.Names.{number_of_name, with_name}
use Rattle.emission_rules.specs.Primitives.{apply_name, call_name, callee_name, empty_name, frame_name, passed_name}

-- ---- what no name may be called

abbrev pub own_names : List (List ℕ)
own_names = empty_name ∷ call_name ∷ apply_name ∷ callee_name ∷ frame_name ∷ passed_name ∷ []

abbrev pub identifier_names : Option Identifier5 → List (List ℕ)
identifier_names None = []
identifier_names (Some x) = x.name ∷ []

-- the names that a statement of the helpers declares
abbrev pub declares_layer : Stat5-F Element5 Expr5 ForFirst5 Link5 Property5 Stat5 Block5 Case5 Catch5 Condition5 Declared5 Function5 Operand5 → List (List ℕ)
declares_layer (layer.Var span declared) = map (λ d. (out-Declared5 d).name.name) declared
declares_layer (layer.FunctionDeclaration f) = identifier_names (out-Function5 f).name
declares_layer x = []

unfoldable pub declares : Stat5 → List (List ℕ)
declares s = declares_layer (out-Stat5 s)

-- words of the grammar and names with a meaning of their own (7.6.1, 15.1), the script's own names and those of its helpers
abbrev pub helped_names : List Stat5 → List (List ℕ)
helped_names helpers = own_names ++ flat_map declares helpers

abbrev pub is_word : List ℕ → Bool
is_word hint =
    ((is_among reserved_words hint || is_among special_names hint) || is_among kept_globals hint) || is_among known_globals hint

-- ---- the sign between a hint and a number: more `$` than stand side by side in any name of these

abbrev pub longest_run : ℕ → ℕ → List ℕ → ℕ
longest_run best run [] = best
longest_run best run (b ∷ bs) = let now = if b == 36 then run + 1 else 0 in longest_run (max best now) now bs

abbrev pub most_dollars : ℕ → List (List ℕ) → ℕ
most_dollars best [] = best
most_dollars best (name ∷ names) = most_dollars (longest_run best 0 name) names

abbrev pub sign : List (List ℕ) → List ℕ
sign taken = replicate (most_dollars 0 taken + 1) 36

-- ---- names

-- what a number stands behind
abbrev pub stem : List ℕ → List ℕ
stem hint = cond (is_ascii_identifier hint) hint (codes "v")

abbrev pub numbered : List ℕ → List ℕ → ℕ → List ℕ
numbered sign hint n = stem hint ++ sign ++ decimal n

abbrev pub hint_text : Option (List ℕ) → List ℕ
hint_text None = []
hint_text (Some hint) = hint

-- a hint with a `$` could be a numbered name
abbrev pub has_dollar : List ℕ → Bool
has_dollar hint = list_any (λ b. b == 36) hint

-- the names that are taken, each once; one that isn't there has the number of the empty name, which never is
abbrev pub with_names : List (List ℕ) → List (List ℕ) → List (List ℕ)
with_names taken [] = taken
with_names taken (name ∷ names) = with_names (with_name taken name) names

abbrev pub is_taken : List (List ℕ) → List ℕ → Bool
is_taken taken name = not (nat_eq (number_of_name taken name) (number_of_name taken []))

abbrev pub is_free : List (List ℕ) → List ℕ → Bool
is_free taken hint = ((is_ascii_identifier hint && not (has_dollar hint)) && not (is_taken taken hint)) && not (is_word hint)

abbrev pub hint_name : List ℕ → List (List ℕ) → ℕ → List ℕ → List ℕ
hint_name sign taken n hint = cond (is_free taken hint) hint (numbered sign hint n)

-- a hint that is free is taken then
abbrev pub with_hint : List (List ℕ) → List ℕ → List (List ℕ)
with_hint taken hint = cond (is_free taken hint) (with_name taken hint) taken

-- from this number on
abbrev pub names_from : List ℕ → List (List ℕ) → ℕ → List (Option (List ℕ)) → List (List ℕ)
names_from sign taken n [] = []
names_from sign taken n (hint ∷ hints) =
    hint_name sign taken n (hint_text hint) ∷ names_from sign (with_hint taken (hint_text hint)) (n + 1) hints

-- hosts keep their names, but for those of helpers
abbrev pub host_name : List ℕ → List (List ℕ) → ℕ → List ℕ → List ℕ
host_name sign taken n host = cond (is_taken taken host) (numbered sign host n) host

abbrev pub hosts_from : List ℕ → List (List ℕ) → ℕ → List (List ℕ) → List (List ℕ)
hosts_from sign taken n [] = []
hosts_from sign taken n (host ∷ hosts) = host_name sign taken n host ∷ hosts_from sign taken (n + 1) hosts
