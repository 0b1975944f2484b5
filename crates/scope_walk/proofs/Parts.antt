-- A function in the scope of its own name, and one that is exported by default.
use Rattle.std.proofs.Common.{◌≡◌, ℕ, List, [], ◌∷◌, ◌++◌, Option, ap, sym, ◌∙◌, append_assoc}
use Rattle.es_text.specs.declared.Span.{Span}
use Rattle.es6_ast.specs.declared.tree.Function.{Function, out-Function}
use Rattle.es6_ast.specs.declared.tree.Identifier.{Identifier}
use Rattle.scope_heads.proofs.Rounds.{own_around}
use Rattle.scope_heads.specs.Heads.{own_begins, own_ends}
use Rattle.scope_rules.specs.Marks.{default_mark, function_marked, own_scope}
use Rattle.scope_rules.specs.declared.kinds.Kind.{Kind}
use Rattle.scope_rules.specs.declared.mark.Mark.{Mark}
use Rattle.scope_walk.proofs.Layers.{function_end_out, function_name_out}

pub own_met : (k : Kind) (f : Function) (old begun inner exit : List Mark) → begun ≡ old ++ own_begins k (out-Function f).span.end (out-Function f).name → inner ≡ begun ++ (function_marked f).marks → exit ≡ inner ++ own_ends (out-Function f).name
    → exit ≡ old ++ own_scope k (function_marked f).end (function_marked f).name (function_marked f).marks
own_met k f old begun inner exit begins marks ends =
    let end : ℕ = (out-Function f).span.end in
    let name : Option Identifier = (out-Function f).name in
    let ms : List Mark = (function_marked f).marks in
    ends
    ∙ ap (λ (xs : List Mark). xs ++ own_ends name) (marks ∙ ap (λ (xs : List Mark). xs ++ ms) begins)
    ∙ append_assoc (old ++ own_begins k end name) ms (own_ends name)
    ∙ append_assoc old (own_begins k end name) (ms ++ own_ends name)
    ∙ ap (λ (xs : List Mark). old ++ xs) (sym (append_assoc (own_begins k end name) ms (own_ends name)))
    ∙ ap (λ (xs : List Mark). old ++ xs) (sym (own_around k end name ms))
    ∙ ap (λ (e : ℕ). old ++ own_scope k e name ms) (sym (function_end_out f))
    ∙ ap (λ (n : Option Identifier). old ++ own_scope k (function_marked f).end n ms) (sym (function_name_out f))

pub default_met : (k : Kind) (f : Function) (word : Span) (old declared exit : List Mark) → declared ≡ old ++ default_mark k (out-Function f).span.end word (out-Function f).name ∷ [] → exit ≡ declared ++ (function_marked f).marks
    → exit ≡ old ++ default_mark k (function_marked f).end word (function_marked f).name ∷ (function_marked f).marks
default_met k f word old declared exit declares marks =
    let end : ℕ = (out-Function f).span.end in
    let name : Option Identifier = (out-Function f).name in
    let ms : List Mark = (function_marked f).marks in
    marks
    ∙ ap (λ (xs : List Mark). xs ++ ms) declares
    ∙ append_assoc old (default_mark k end word name ∷ []) ms
    ∙ ap (λ (e : ℕ). old ++ default_mark k e word name ∷ ms) (sym (function_end_out f))
    ∙ ap (λ (n : Option Identifier). old ++ default_mark k (function_marked f).end word n ∷ ms) (sym (function_name_out f))
