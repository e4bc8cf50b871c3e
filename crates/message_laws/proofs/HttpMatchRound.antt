-- What is written of a match or a filter of a route is read back.
use Rattle.std.proofs.Common.{◌≡◌, ℕ, ◌^◌, ◌<◌, ◌≤◌, ◌==◌, false, List, [], ◌∷◌, length, Option, None, refl, arith, lit<, lit≤}
use Rattle.std.specs.List.{AllByRecursion}
use Rattle.std.specs.Str.{IsUtf8}
use Rattle.view_types.specs.Lawful.{ArePairs, AreLawfulHeaders, IsLawfulFilter, IsLawfulMatch, IsLawfulName, IsLawfulPath, IsLawfulRedirect}
use Rattle.view_types.specs.declared.route.Filter.{Filter}
use Rattle.view_types.specs.declared.route.Filter.TheVariants.{Headers, Redirect}
use Rattle.view_types.specs.declared.route.HttpMatch.{HttpMatch}
use Rattle.view_types.specs.declared.route.NameMatch.{NameMatch}
use Rattle.view_types.specs.declared.route.PathMatch.{PathMatch}
use Rattle.view_types.specs.declared.route.PathMatch.TheVariants.{Exact, Prefix, Regex}
use Rattle.proto_wire.specs.Wire.{spelling}
use Rattle.proxy_proto.specs.declared.table.Schema.TheVariants as schemas
use Rattle.proxy_proto.specs.EndpointReading.{label_in}
use Rattle.proxy_proto.specs.Faults.{end_fault}
use Rattle.proxy_proto.specs.FieldRecords.{chunk, number_field, bool_field, text_field, optional_text, optional_number, texts_field, each_field}
use Rattle.proxy_proto.specs.RouteReading.{filter_in, headers_in, match_in, name_in, path_from, path_in, redirect_in}
use Rattle.proxy_proto.specs.Routes.{filter_records, headers_records, match_records, name_records, path_number, path_records, path_text, redirect_records, value_records}
use Rattle.proxy_proto.specs.Sendable.{IsSendableLabel}
use Rattle.proxy_proto.specs.Tables.{fields_of}
use Rattle.message_laws.proofs.Coming.{each_comes, first_inside}
use Rattle.message_laws.proofs.FieldBlocks.{AllWritten, FieldBlock, block, laid, laid_comes}
use Rattle.message_laws.proofs.WrittenFields.{ComesIfShort, EachComes, below_read, each_read, each_written, flag_read, flag_written, has_read, inside_short, member_comes, message_read, number_read, number_written, optional_port_read, optional_port_written, optional_text_read, optional_text_written, required_written, text_read, text_written, texts_read, texts_written}

-- ---- a path

abbrev path_blocks : PathMatch → List FieldBlock
path_blocks path = block 1 (number_field 1 (path_number path)) ∷ block 2 (text_field 2 (path_text path)) ∷ []

path_laid : (path : PathMatch) → path_records path ≡ laid (path_blocks path)
unfolding path_records laid
path_laid path = refl

path_most : (path : PathMatch) → path_number path ≤ 3
path_most (Exact text) = lit≤ tt
path_most (Prefix text) = lit≤ tt
path_most (Regex text) = lit≤ tt

path_some : (path : PathMatch) → (path_number path == 0) ≡ false
path_some (Exact text) = refl
path_some (Prefix text) = refl
path_some (Regex text) = refl

path_utf8 : (path : PathMatch) → IsLawfulPath path → IsUtf8 (path_text path)
path_utf8 (Exact text) fits = fits
path_utf8 (Prefix text) fits = fits
path_utf8 (Regex text) fits = fits

path_kept : (path : PathMatch) → path_from (path_number path) (path_text path) ≡ path
path_kept (Exact text) = refl
path_kept (Prefix text) = refl
path_kept (Regex text) = refl

path_written : (path : PathMatch) → IsLawfulPath path → AllWritten schemas.PathMatch (path_blocks path)
path_written path fits = (
  number_written schemas.PathMatch 1 3 (path_number path) (lit< tt, lit< tt) refl (path_most path) (lit< tt),
  (text_written schemas.PathMatch 2 (path_text path) (lit< tt, lit< tt) refl (path_utf8 path fits), tt),
)

path_ends : (path : PathMatch) → IsLawfulPath path → end_fault schemas.PathMatch (fields_of schemas.PathMatch) (record { records = laid (path_blocks path); fault = None }) ≡ None
path_ends path fits = rw (number_read schemas.PathMatch (path_blocks path) (path_written path fits) 1 (path_number path) refl, path_some path) refl

path_back : (path : PathMatch) → IsLawfulPath path → path_in (laid (path_blocks path)) ≡ path
unfolding path_in
path_back path fits =
    let s = schemas.PathMatch in
    let bs = path_blocks path in
    let w = path_written path fits in
    rw (number_read s bs w 1 (path_number path) refl, text_read s bs w 2 (path_text path) refl (path_utf8 path fits)) (path_kept path)

path_comes : (path : PathMatch) → IsLawfulPath path → ComesIfShort schemas.PathMatch path_in (path_records path) path
path_comes path fits = rw (path_laid path) (λ short. laid_comes schemas.PathMatch path_in (path_blocks path) path (path_written path fits) refl (path_ends path fits) (path_back path fits) short)

-- ---- a header or a part of the query

abbrev name_blocks : NameMatch → List FieldBlock
name_blocks part = block 1 (text_field 1 part.name) ∷ block 2 (text_field 2 part.value) ∷ block 3 (bool_field 3 part.regex) ∷ []

name_laid : (part : NameMatch) → name_records part ≡ laid (name_blocks part)
unfolding name_records laid
name_laid part = refl

name_written : (part : NameMatch) → IsLawfulName part → AllWritten schemas.NameMatch (name_blocks part)
name_written part fits = (
  text_written schemas.NameMatch 1 part.name (lit< tt, lit< tt) refl fits.name,
  (
    text_written schemas.NameMatch 2 part.value (lit< tt, lit< tt) refl fits.value,
    (flag_written schemas.NameMatch 3 part.regex (lit< tt, lit< tt) refl, tt),
  ),
)

name_back : (part : NameMatch) → IsLawfulName part → name_in (laid (name_blocks part)) ≡ part
unfolding name_in
name_back part fits =
    let s = schemas.NameMatch in
    let bs = name_blocks part in
    let w = name_written part fits in
    rw (text_read s bs w 1 part.name refl fits.name, text_read s bs w 2 part.value refl fits.value, flag_read s bs w 3 part.regex refl) refl

name_comes : (part : NameMatch) → IsLawfulName part → ComesIfShort schemas.NameMatch name_in (name_records part) part
name_comes part fits = rw (name_laid part) (λ short. laid_comes schemas.NameMatch name_in (name_blocks part) part (name_written part fits) refl refl (name_back part fits) short)

-- ---- a match

abbrev match_blocks : HttpMatch → List FieldBlock
match_blocks m =
    block 1 (chunk 1 (spelling (path_records m.path)) ∷ [])
    ∷ block 2 (each_field 2 name_records m.headers)
    ∷ block 3 (each_field 3 name_records m.query)
    ∷ block 4 (optional_text 4 m.method)
    ∷ []

match_laid : (m : HttpMatch) → match_records m ≡ laid (match_blocks m)
unfolding match_records laid
match_laid m = refl

names_come : (n : ℕ) (parts : List NameMatch) → AllByRecursion IsLawfulName parts → EachComes n schemas.NameMatch name_in name_records parts
names_come n parts fits = each_comes n schemas.NameMatch name_in name_records IsLawfulName parts name_comes fits

match_written : (m : HttpMatch) → IsLawfulMatch m → AllWritten schemas.HttpMatch (match_blocks m)
match_written m fits = (
  required_written schemas.HttpMatch 1 schemas.PathMatch path_in (path_records m.path) m.path (lit< tt, lit< tt) refl (path_comes m.path fits.path),
  (
    each_written schemas.HttpMatch 2 schemas.NameMatch name_in name_records m.headers (lit< tt, lit< tt) refl (names_come 2 m.headers fits.headers),
    (
      each_written schemas.HttpMatch 3 schemas.NameMatch name_in name_records m.query (lit< tt, lit< tt) refl (names_come 3 m.query fits.query),
      (optional_text_written schemas.HttpMatch 4 m.method (lit< tt, lit< tt) refl fits.method, tt),
    ),
  ),
)

match_ends : (m : HttpMatch) → IsLawfulMatch m → end_fault schemas.HttpMatch (fields_of schemas.HttpMatch) (record { records = laid (match_blocks m); fault = None }) ≡ None
match_ends m fits = rw (has_read schemas.HttpMatch (match_blocks m) (match_written m fits) 1 (spelling (path_records m.path)) refl) refl

match_back : (m : HttpMatch) → IsLawfulMatch m → length (spelling (laid (match_blocks m))) < 2 ^ 64 → match_in (laid (match_blocks m)) ≡ m
unfolding match_in
match_back m fits short =
    let s = schemas.HttpMatch in
    let bs = match_blocks m in
    let w = match_written m fits in
    let low = inside_short s bs w 1 (path_records m.path) refl short in
    let path = message_read s bs w 1 path_in (path_records m.path) m.path refl (path_comes m.path fits.path low).back in
    let headers = each_read s bs w 2 schemas.NameMatch name_in name_records m.headers refl (names_come 2 m.headers fits.headers) short in
    let query = each_read s bs w 3 schemas.NameMatch name_in name_records m.query refl (names_come 3 m.query fits.query) short in
    rw (path, headers, query, optional_text_read s bs w 4 m.method refl fits.method fits.filled) refl

pub match_comes : (m : HttpMatch) → IsLawfulMatch m → ComesIfShort schemas.HttpMatch match_in (match_records m) m
match_comes m fits = rw (match_laid m) (λ short. laid_comes schemas.HttpMatch match_in (match_blocks m) m (match_written m fits) refl (match_ends m fits) (match_back m fits short) short)

-- ---- a name and a value

abbrev value_blocks : List ℕ × List ℕ → List FieldBlock
value_blocks pair = block 1 (text_field 1 pair.0) ∷ block 2 (text_field 2 pair.1) ∷ []

value_laid : (pair : List ℕ × List ℕ) → value_records pair ≡ laid (value_blocks pair)
unfolding value_records laid
value_laid pair = refl

value_written : (pair : List ℕ × List ℕ) → IsSendableLabel pair → AllWritten schemas.NameValue (value_blocks pair)
value_written pair fits = (
  text_written schemas.NameValue 1 pair.0 (lit< tt, lit< tt) refl fits.0,
  (text_written schemas.NameValue 2 pair.1 (lit< tt, lit< tt) refl fits.1, tt),
)

value_back : (pair : List ℕ × List ℕ) → IsSendableLabel pair → label_in (laid (value_blocks pair)) ≡ pair
unfolding label_in
value_back pair fits =
    let s = schemas.NameValue in
    let bs = value_blocks pair in
    let w = value_written pair fits in
    rw (text_read s bs w 1 pair.0 refl fits.0, text_read s bs w 2 pair.1 refl fits.1) refl

value_comes : (pair : List ℕ × List ℕ) → IsSendableLabel pair → ComesIfShort schemas.NameValue label_in (value_records pair) pair
value_comes pair fits = rw (value_laid pair) (λ short. laid_comes schemas.NameValue label_in (value_blocks pair) pair (value_written pair fits) refl refl (value_back pair fits) short)

values_come : (n : ℕ) (pairs : List (List ℕ × List ℕ)) → ArePairs pairs → EachComes n schemas.NameValue label_in value_records pairs
values_come n pairs fits = each_comes n schemas.NameValue label_in value_records IsSendableLabel pairs value_comes fits

-- ---- a change of headers

abbrev headers_blocks : List (List ℕ × List ℕ) → List (List ℕ × List ℕ) → List (List ℕ) → List FieldBlock
headers_blocks add set remove = block 1 (each_field 1 value_records add) ∷ block 2 (each_field 2 value_records set) ∷ block 3 (texts_field 3 remove) ∷ []

headers_laid : (add set : List (List ℕ × List ℕ)) (remove : List (List ℕ)) → headers_records add set remove ≡ laid (headers_blocks add set remove)
unfolding headers_records laid
headers_laid add set remove = refl

headers_written : (add set : List (List ℕ × List ℕ)) (remove : List (List ℕ)) → AreLawfulHeaders add set remove → AllWritten schemas.HeaderChange (headers_blocks add set remove)
headers_written add set remove fits = (
  each_written schemas.HeaderChange 1 schemas.NameValue label_in value_records add (lit< tt, lit< tt) refl (values_come 1 add fits.added),
  (
    each_written schemas.HeaderChange 2 schemas.NameValue label_in value_records set (lit< tt, lit< tt) refl (values_come 2 set fits.replaced),
    (texts_written schemas.HeaderChange 3 remove (lit< tt, lit< tt) refl fits.removed, tt),
  ),
)

headers_back : (add set : List (List ℕ × List ℕ)) (remove : List (List ℕ)) → AreLawfulHeaders add set remove → length (spelling (laid (headers_blocks add set remove))) < 2 ^ 64
    → headers_in (laid (headers_blocks add set remove)) ≡ Headers add set remove
unfolding headers_in
headers_back add set remove fits short =
    let s = schemas.HeaderChange in
    let bs = headers_blocks add set remove in
    let w = headers_written add set remove fits in
    let added = each_read s bs w 1 schemas.NameValue label_in value_records add refl (values_come 1 add fits.added) short in
    let replaced = each_read s bs w 2 schemas.NameValue label_in value_records set refl (values_come 2 set fits.replaced) short in
    rw (added, replaced, texts_read s bs w 3 remove refl fits.removed) refl

headers_come : (add set : List (List ℕ × List ℕ)) (remove : List (List ℕ)) → AreLawfulHeaders add set remove → ComesIfShort schemas.HeaderChange headers_in (headers_records add set remove) (Headers add set remove)
headers_come add set remove fits =
    rw (headers_laid add set remove)
    (λ short. laid_comes schemas.HeaderChange headers_in (headers_blocks add set remove) (Headers add set remove) (headers_written add set remove fits) refl refl (headers_back add set remove fits short) short)

-- ---- a redirect

abbrev redirect_blocks : Option (List ℕ) → Option (List ℕ) → Option ℕ → ℕ → List FieldBlock
redirect_blocks scheme host port status = block 1 (optional_text 1 scheme) ∷ block 2 (optional_text 2 host) ∷ block 3 (optional_number 3 port) ∷ block 4 (number_field 4 status) ∷ []

redirect_laid : (scheme host : Option (List ℕ)) (port : Option ℕ) (status : ℕ) → redirect_records scheme host port status ≡ laid (redirect_blocks scheme host port status)
unfolding redirect_records laid
redirect_laid scheme host port status = refl

redirect_written : (scheme host : Option (List ℕ)) (port : Option ℕ) (status : ℕ) → IsLawfulRedirect scheme host port status → AllWritten schemas.Redirect (redirect_blocks scheme host port status)
redirect_written scheme host port status fits =
    let low = fits.status_number in (
      optional_text_written schemas.Redirect 1 scheme (lit< tt, lit< tt) refl fits.scheme_text,
      (
        optional_text_written schemas.Redirect 2 host (lit< tt, lit< tt) refl fits.host_text,
        (
          optional_port_written schemas.Redirect 3 port (lit< tt, lit< tt) refl fits.port_number,
          (number_written schemas.Redirect 4 65535 status (lit< tt, lit< tt) refl (omega arith) (lit< tt), tt),
        ),
      ),
    )

redirect_back : (scheme host : Option (List ℕ)) (port : Option ℕ) (status : ℕ) → IsLawfulRedirect scheme host port status → redirect_in (laid (redirect_blocks scheme host port status)) ≡ Redirect scheme host port status
unfolding redirect_in
redirect_back scheme host port status fits =
    let s = schemas.Redirect in
    let bs = redirect_blocks scheme host port status in
    let w = redirect_written scheme host port status fits in
    let scheme_is = optional_text_read s bs w 1 scheme refl fits.scheme_text fits.scheme_filled in
    let host_is = optional_text_read s bs w 2 host refl fits.host_text fits.host_filled in
    let port_is = optional_port_read s bs w 3 port refl fits.port_number fits.port_filled in
    rw (scheme_is, host_is, port_is, below_read s bs w 65536 4 status refl fits.status_number) refl

redirect_comes : (scheme host : Option (List ℕ)) (port : Option ℕ) (status : ℕ) → IsLawfulRedirect scheme host port status → ComesIfShort schemas.Redirect redirect_in (redirect_records scheme host port status) (Redirect scheme host port status)
redirect_comes scheme host port status fits =
    rw (redirect_laid scheme host port status)
    (λ short. laid_comes schemas.Redirect redirect_in (redirect_blocks scheme host port status) (Redirect scheme host port status) (redirect_written scheme host port status fits) refl refl (redirect_back scheme host port status fits) short)

-- ---- a filter

pub filter_comes : (filter : Filter) → IsLawfulFilter filter → ComesIfShort schemas.Filter filter_in (filter_records filter) filter
unfolding filter_records filter_in
filter_comes (Headers add set remove) fits short =
    let rs = headers_records add set remove in
    let less = first_inside 1 (spelling rs) [] in
    let there = headers_come add set remove fits (omega arith) in
    member_comes schemas.Filter filter_in 1 schemas.HeaderChange rs (Headers add set remove) (lit< tt, lit< tt) refl refl refl there.clean there.back short
filter_comes (Redirect scheme host port status) fits short =
    let rs = redirect_records scheme host port status in
    let less = first_inside 2 (spelling rs) [] in
    let there = redirect_comes scheme host port status fits (omega arith) in
    member_comes schemas.Filter filter_in 2 schemas.Redirect rs (Redirect scheme host port status) (lit< tt, lit< tt) refl refl refl there.clean there.back short
