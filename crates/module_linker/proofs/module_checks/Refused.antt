-- What is told of a fault is a fault of the bytes.
use Rattle.std.proofs.Common.{◌≡◌, ℕ, List, map, Option, Some, None, sym, ap, ◌∙◌, subst, chars}
use Rattle.std.specs.Prelude.{Err}
use Rattle.es_text.specs.declared.Place.{Place}
use Rattle.es_text.specs.Places.{IsPlace}
use Rattle.es6_lexer.specs.declared.token.Token.{Token}
use Rattle.es6_lexer.specs.Lexes.{Lexes}
use Rattle.es6_ast.specs.declared.module.Module.{Module}
use Rattle.es6_ast.specs.declared.settings.Stop.{Stop}
use Rattle.es6_ast.specs.Tokens.{read}
use Rattle.es6_reading.specs.Modules.{read_module}
use Rattle.es6_cursor.specs.Readers.{turns}
use Rattle.es6_expr.specs.declared.fault.ParseFault.{ParseFault}
use Rattle.es6_expr.specs.declared.fault.ParseFault.TheVariants as parses
use Rattle.es6_expr.specs.es6_module.Parsed.{Answers, IsFault, IsStopped}
use Rattle.module_linker.specs.declared.module_checks.fault.ModuleFault.{ModuleFault}
use Rattle.module_linker.specs.declared.module_checks.fault.ModuleFault.TheVariants.{FileTooLong, NotUtf8, Parse, Early, Outside, OutOfMemory}
use Rattle.module_linker.specs.module_checks.Faults.{IsMisfit, IsNoModule, IsPlaced, IsToldFor, Refuses, offset_of}
use Rattle.module_linker.specs.module_checks.Reading.{IsLexed, IsSpelled}
use Rattle.module_linker.proofs.module_checks.Placed.{stop_placed}

some_same : {A : Type 0} {x y : A} → Some x ≡ Some y → x ≡ y
some_same {x = x} e = ap (λ o. or x o) e
  where
    or : {A : Type 0} → A → Option A → A
    or d None = d
    or d (Some z) = z

stopped_placed : (text : List ℕ) (tokens : List Token) (stop : Stop) (n at : ℕ) (place : Place) → Lexes text tokens → IsStopped tokens stop n → Some n ≡ Some at → IsToldFor text at place → IsPlace text at place
stopped_placed text tokens stop n at place lexed s e told = stop_placed text tokens s.front s.rest at place lexed s.parts (sym (some_same e) ∙ s.place) told

fault_placed : (text : List ℕ) (tokens : List Token) (fault : ParseFault) (at : ℕ) (place : Place) → Lexes text tokens → IsFault tokens fault → offset_of fault ≡ Some at → IsToldFor text at place → IsPlace text at place
fault_placed text tokens (parses.Syntax n) at place lexed s e told = stopped_placed text tokens _ n at place lexed s e told
fault_placed text tokens (parses.Lexical n kind) at place lexed s e told = stopped_placed text tokens _ n at place lexed s e told
fault_placed text tokens (parses.Outside rule n) at place lexed s e told = stopped_placed text tokens _ n at place lexed s e told
fault_placed text tokens (parses.Depth n) at place lexed s e told = stopped_placed text tokens _ n at place lexed s e told
fault_placed text tokens parses.OutOfMemory at place lexed s e told = absurd (cc)

pub no_module : (bytes : List ℕ) (tokens : List Token) (fault : ParseFault) → IsLexed bytes tokens → IsFault tokens fault → Answers tokens (read_module turns (map read tokens)) (Err fault) → (told : ModuleFault) → IsPlaced (chars bytes) fault told → Refuses bytes told
no_module bytes tokens fault lexed stops reads (Parse place own) h =
    let P : ParseFault → Type 0 = λ f. IsNoModule bytes f place in
    let is : IsNoModule bytes fault place = record {
      tokens = tokens;
      lexed = lexed;
      stops = stops;
      reads = reads;
      at = h.at;
      stands = h.stands;
      place_is = fault_placed (chars bytes) tokens fault h.at place lexed.lexed stops h.stands h.place_is;
    } in
    subst P (sym h.same) is
no_module bytes tokens fault lexed stops reads FileTooLong h = absurd h
no_module bytes tokens fault lexed stops reads (NotUtf8 at) h = absurd h
no_module bytes tokens fault lexed stops reads (Early place rule) h = absurd h
no_module bytes tokens fault lexed stops reads (Outside place rule) h = absurd h
no_module bytes tokens fault lexed stops reads OutOfMemory h = tt

pub misfit_refuses : (bytes : List ℕ) (tree : Module) → IsSpelled bytes tree → (told : ModuleFault) → IsMisfit (chars bytes) tree told → Refuses bytes told
misfit_refuses bytes tree spelled (Early place rule) h = record { tree = tree; spelled = spelled; misfit = h }
misfit_refuses bytes tree spelled (Outside place rule) h = record { tree = tree; spelled = spelled; misfit = h }
misfit_refuses bytes tree spelled FileTooLong h = absurd h
misfit_refuses bytes tree spelled (NotUtf8 at) h = absurd h
misfit_refuses bytes tree spelled (Parse place own) h = absurd h
misfit_refuses bytes tree spelled OutOfMemory h = tt
