-- The text that is written is JSON, and a map's JSON.
use Rattle.std.proofs.Common.{◌≡◌, ℕ, ◌≤◌, max, List, [], ◌∷◌, ◌++◌, length, Bool, true, false, Some, option_map, option_and_then, Result, Ok, decimal, codes, refl, sym, ap, ◌∙◌, arith, append_assoc, append-nil, lit<}
use Rattle.std.specs.Str.{IsUtf8}
use Rattle.std.proofs.lemmas.Fmt.{decimal_digit}
use Rattle.json.specs.Lex.{tokens}
use Rattle.json.specs.Json as json
use Rattle.json.specs.Print.{quoted}
use Rattle.json.specs.Tree as tree
use Rattle.json.proofs.Printed.Tokens.{tokens-print}
use Rattle.json.proofs.Printed.Trees.{value-json_tokens, ArePrintable-json_tokens}
use Rattle.json.proofs.Printed.Decimals.{IsNumber-decimal}
use Rattle.serde_json.specs.Data.{unsigned, Data, number, string, array, object, Items, no_items, item, no_members, member}
use Rattle.serde_json.specs.Read.{read, of_json, of_items, max_depth, number_of}
use Rattle.serde_json.specs.Written.{outline, items_outline, compact_text, items_text, comma_if}
use Rattle.serde_json.proofs.Texts.{print-outline}
use Rattle.serde_json.proofs.OnLiterals.{serde_json_on_literals}
use Rattle.source_map.specs.declared.map.Map.{Map}
use Rattle.source_map.specs.declared.fault.MapFault.{MapFault}
use Rattle.source_map.specs.Outcome.{◌>>=◌}
use Rattle.source_map.specs.Segments.{segments_of}
use Rattle.source_map.specs.Document.{texts, map_of, map_of_data, version_of}
use Rattle.source_map.specs.Written.{texts_text, list_text, document_text}
use Rattle.source_map.proofs.Texts.{map_of-read}

-- ---- what is written, as data

abbrev strings : List (List ℕ) → Items
strings [] = no_items
strings (t ∷ ts) = item (string t) (strings ts)

-- in the order of the text
abbrev written : List (List ℕ) → List (List ℕ) → List ℕ → Data
written sources names mappings =
    object (member (codes "version") (number (unsigned 3)) (member (codes "sources") (array (strings sources))
    (member (codes "names") (array (strings names)) (member (codes "mappings") (string mappings) no_members))))

-- in the order of the keys
abbrev sorted : List (List ℕ) → List (List ℕ) → List ℕ → Data
sorted sources names mappings =
    object (member (codes "mappings") (string mappings) (member (codes "names") (array (strings names))
    (member (codes "sources") (array (strings sources)) (member (codes "version") (number (unsigned 3)) no_members))))

-- ---- the text of that data

regroup : (a b c d : List ℕ) → a ++ (b ++ (c ++ d)) ≡ (a ++ (b ++ c)) ++ d
regroup a b c d = simp append_assoc

items_text-strings : (later : Bool) (ts : List (List ℕ)) → items_text later (strings ts) ≡ texts_text later ts ++ 93 ∷ []
items_text-strings later [] = refl
items_text-strings later (t ∷ ts) = ap (λ s. comma_if later ++ (quoted t ++ s)) (items_text-strings true ts) ∙ regroup (comma_if later) (quoted t) (texts_text true ts) (93 ∷ [])

closed_list : (ts : List (List ℕ)) (rest : List ℕ) → items_text false (strings ts) ++ rest ≡ list_text ts ++ 93 ∷ rest
closed_list ts rest = ap (λ s. s ++ rest) (items_text-strings false ts) ∙ append_assoc (list_text ts) (93 ∷ []) rest

compact_text-written : (sources names : List (List ℕ)) (mappings : List ℕ) → compact_text (written sources names mappings) ≡ document_text sources names mappings
unfolding serde_json_on_literals document_text
compact_text-written sources names mappings =
    rw (decimal_digit 3 (lit< tt), closed_list sources, closed_list names) refl

-- ---- its tokens

numbers : (ts : List (List ℕ)) → tree.ItemsHaveNumbers (items_outline (strings ts))
numbers [] = tt
numbers (t ∷ ts) = (tt, numbers ts)

shallow : (ts : List (List ℕ)) → tree.items_depth (items_outline (strings ts)) ≡ 0
shallow [] = refl
shallow (t ∷ ts) = ap (max 0) (shallow ts)

has_numbers : (sources names : List (List ℕ)) (mappings : List ℕ) → tree.HasNumbers (outline (written sources names mappings))
has_numbers sources names mappings = (IsNumber-decimal 3 (lit< tt), (numbers sources, (numbers names, (tt, tt))))

depth_of : (sources names : List (List ℕ)) (mappings : List ℕ) → tree.depth (outline (written sources names mappings)) ≤ max_depth
depth_of sources names mappings = rw (shallow sources, shallow names) (omega arith)

tokens-written : (sources names : List (List ℕ)) (mappings : List ℕ) → tokens (compact_text (written sources names mappings)) ≡ tree.json_tokens (outline (written sources names mappings))
tokens-written sources names mappings =
    let d = written sources names mappings in
    ap tokens (sym (print-outline d)) ∙ tokens-print (tree.json_tokens (outline d)) (ArePrintable-json_tokens (outline d) (has_numbers sources names mappings))

-- ---- what it reads as

of_items-strings : (ts : List (List ℕ)) → of_items (items_outline (strings ts)) ≡ Some (strings ts)
of_items-strings [] = refl
of_items-strings (t ∷ ts) = ap (option_map (item (string t))) (of_items-strings ts)

three : of_json (json.number (decimal 3)) ≡ Some (number (unsigned 3))
unfolding serde_json_on_literals
three = ap (λ s. option_map number (number_of s)) (decimal_digit 3 (lit< tt))

of_json-written : (sources names : List (List ℕ)) (mappings : List ℕ) → of_json (outline (written sources names mappings)) ≡ Some (sorted sources names mappings)
of_json-written sources names mappings = rw (three, of_items-strings sources, of_items-strings names) refl

read-written : (sources names : List (List ℕ)) (mappings : List ℕ) → read (compact_text (written sources names mappings)) ≡ Some (sorted sources names mappings)
read-written sources names mappings =
    let j = outline (written sources names mappings) in
    ap (λ o. option_and_then of_json (option_and_then (λ p. json.if_last p.0 p.1) o))
    (ap (json.value max_depth) (tokens-written sources names mappings ∙ sym (append-nil (tree.json_tokens j))) ∙ value-json_tokens j max_depth [] (depth_of sources names mappings))
    ∙ of_json-written sources names mappings

-- ---- which map that is

texts-strings : (ts : List (List ℕ)) → texts (strings ts) ≡ Some ts
texts-strings [] = refl
texts-strings (t ∷ ts) = ap (option_map (λ ts. t ∷ ts)) (texts-strings ts)

abbrev with_lists : List (List ℕ) → List (List ℕ) → List ℕ → Result Map MapFault
with_lists sources names mappings = segments_of (length sources) (length names) mappings >>= λ segments. Ok (record { sources = sources; names = names; segments = segments })

map_of_data-sorted : (sources names : List (List ℕ)) (mappings : List ℕ) → map_of_data (sorted sources names mappings) ≡ with_lists sources names mappings
unfolding map_of_data version_of
map_of_data-sorted sources names mappings = rw (texts-strings sources, texts-strings names) refl

-- what is written is the map of its lists and its segments
pub map_of-document_text : (sources names : List (List ℕ)) (mappings : List ℕ) → IsUtf8 (document_text sources names mappings)
    → map_of (document_text sources names mappings) ≡ with_lists sources names mappings
map_of-document_text sources names mappings utf8 =
    map_of-read (document_text sources names mappings) (sorted sources names mappings) utf8 (ap read (sym (compact_text-written sources names mappings)) ∙ read-written sources names mappings)
    ∙ map_of_data-sorted sources names mappings
