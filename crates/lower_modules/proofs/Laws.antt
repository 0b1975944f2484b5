-- The parts of modules, by what is known once for all.
use Rattle.std.proofs.Common.{◌≡◌, ℕ, ◌+◌, Bool, List, [], ◌∷◌, length, map, refl, sym, ap, ◌∙◌, arith}
use Rattle.es6_ast.specs.declared.graph.Graph.{Graph}
use Rattle.es6_ast.specs.declared.graph.LoadedModule.{LoadedModule}
use Rattle.es6_ast.specs.declared.module.Item.{Item}
use Rattle.es6_ast.specs.declared.module.Module.{Module}
use Rattle.core_ast.specs.declared.parts.Var.{Var}
use Rattle.core_ast.specs.declared.tree.CoreStat.{CoreStat}
use Rattle.core_ast.specs.declared.whole.CorePart.{CorePart}
use Rattle.lowering_rules.specs.declared.statement_rules.bodies.ModuleScope.{ModuleScope}
use Rattle.module_lowering.specs.declared.context.Context.{Context}
use Rattle.module_lowering.specs.declared.meaning.Entry.{Entry}
use Rattle.module_lowering.specs.Nodes.{Listed}
use Rattle.scope_analysis.specs.declared.scopes.Scopes.{Scopes}
use Rattle.module_lowering.specs.declared.meaning.NamespaceEntries.{NamespaceEntries}
use Rattle.module_lowering.specs.Lowering.{all_by, each, Lowering, within}
use Rattle.module_lowering.specs.Modules.{ModuleParts, bindings_count, bindings_of, core_of, in_module, is_wanted, is_zero, item_listed, lowered, module_listed, module_part, module_parts, numbered_part, parts_from, start}
use Rattle.module_lowering.specs.Bindings.{Bindings}
use Rattle.module_lowering.specs.declared.lowerer.Lowerer.{Lowerer}
use Rattle.lower_modules.specs.Parts.{declared_in, parts_by, scope_made}

pub same_parts : (g : Graph) (s : Scopes) (wanted : ℕ → Bool) (count : ℕ) → ((n : ℕ) → wanted n ≡ is_wanted g.modules n) → count ≡ bindings_count s → (n : ℕ) (ms : List LoadedModule) (es : List NamespaceEntries)
    → parts_by wanted count n ms es ≡ parts_from g s n ms es
same_parts g s wanted count are counted n [] es = refl
same_parts g s wanted count are counted n (m ∷ ms) [] = refl
same_parts g s wanted count are counted n (m ∷ ms) (e ∷ es) =
    let rest : List (Lowering CorePart) = parts_by wanted count (n + 1) ms es in
    ap (λ (w : Bool). within (λ c. in_module n) (module_part (is_zero n) w (record { 0 = count + n }) e.entries (module_listed m.tree)) ∷ rest) (are n)
    ∙ ap (λ (k : ℕ). within (λ c. in_module n) (module_part (is_zero n) (is_wanted g.modules n) (record { 0 = k + n }) e.entries (module_listed m.tree)) ∷ rest) counted
    ∙ ap (λ (ps : List (Lowering CorePart)). numbered_part g s n m e ∷ ps) (same_parts g s wanted count are counted (n + 1) ms es)

-- where no names are left no part is made
pub parts_none : (wanted : ℕ → Bool) (count n : ℕ) (ms : List LoadedModule) (es : List NamespaceEntries) → length es ≡ 0 → parts_by wanted count n ms es ≡ []
parts_none wanted count n [] es h = refl
parts_none wanted count n (m ∷ ms) [] h = refl
parts_none wanted count n (m ∷ ms) (e ∷ es) h = absurd (omega (arith, h))

-- the core of what is made
pub core_made : (g : Graph) (s : Scopes) (ms : List LoadedModule) (es : List NamespaceEntries) (order : List ℕ) (wanted : ℕ → Bool) (count : ℕ) (b : Bindings) (before after : Lowerer) (parts : List CorePart)
    → ms ≡ g.modules → ((n : ℕ) → wanted n ≡ is_wanted g.modules n) → count ≡ bindings_count s → b ≡ bindings_of g s → before ≡ start g s
    → each (parts_by wanted count 0 ms es) b (in_module 0) before ≡ (parts, after)
    → core_of order (parts, after) ≡ lowered g s es order
core_made g s ms es order wanted count b before after parts own are counted bound begun made =
    ap (λ (x : List CorePart × Lowerer). core_of order x)
    (sym made
    ∙ ap (λ (list : List LoadedModule). each (parts_by wanted count 0 list es) b (in_module 0) before) own
    ∙ ap (λ (ps : List (Lowering CorePart)). each ps b (in_module 0) before) (same_parts g s wanted count are counted 0 g.modules es)
    ∙ ap (λ (bs : Bindings). each (parts_from g s 0 g.modules es) bs (in_module 0) before) bound
    ∙ ap (λ (state : Lowerer). each (parts_from g s 0 g.modules es) (bindings_of g s) (in_module 0) state) begun)

-- the parts of a module, by what is made of its declarations and of its statements
abbrev pub with_statements : List Item → Bindings → Context → ModuleScope × Lowerer → ModuleParts × Lowerer
with_statements items b c scope =
    let stats = all_by (λ l. l.statements) (map item_listed items) b c scope.1 in
    (record { scope = scope.0; statements = stats.0 }, stats.1)

in_steps : (w : Bool) (x : Var) (es : List Entry) (m : Module) (b : Bindings) (c : Context) (state : Lowerer)
    → module_parts w x es (module_listed m) b c state ≡ with_statements m.items b c (scope_made w x es (declared_in m.items) b c state)
in_steps w x es m b c state = refl

abbrev pub made_parts : ModuleScope → List CoreStat × Lowerer → ModuleParts × Lowerer
made_parts scope stats = (record { scope = scope; statements = stats.0 }, stats.1)

pub parts_of : (w : Bool) (x : Var) (es : List Entry) (m : Module) (items : List Item) (d : Listed) (b : Bindings) (c : Context) (before between after : Lowerer) (scope : ModuleScope) (stats : List CoreStat)
    → items ≡ m.items → d ≡ declared_in items → scope_made w x es d b c before ≡ (scope, between)
    → all_by (λ l. l.statements) (map item_listed items) b c between ≡ (stats, after)
    → module_parts w x es (module_listed m) b c before ≡ (record { scope = scope; statements = stats }, after)
parts_of w x es m items d b c before between after scope stats own declared made behind =
    in_steps w x es m b c before
    ∙ ap (λ (is : List Item). with_statements is b c (scope_made w x es (declared_in is) b c before)) (sym own)
    ∙ ap (λ (l : Listed). with_statements items b c (scope_made w x es l b c before)) (sym declared)
    ∙ ap (λ (s : ModuleScope × Lowerer). with_statements items b c s) made
    ∙ ap (λ (s : List CoreStat × Lowerer). made_parts scope s) behind
