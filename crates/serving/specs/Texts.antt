-- The responses that serving itself gives, as constant texts (RFC 9110 section 15; RFC 9457; the causes are this product's own).
use Rattle.std.specs.Prelude.{ℕ, Bool, true, false, List, [], codes}
use Rattle.wire.specs.declared.refusal.WireRefusal.{WireRefusal}
use Rattle.wire.specs.declared.refusal.WireRefusal.TheVariants.{BadHead, TooLong, Chunked, ReadFault, CutShort, OutOfMemory}

-- the response where memory was wanting for a message
unfoldable pub no_memory : Bool → List ℕ
no_memory true = codes "HTTP/1.1 503 Service Unavailable\r\nConnection: close\r\nContent-Length: 34\r\nContent-Type: application/problem+json\r\n\r\n{\"cause\":\"NO_MEMORY\",\"status\":503}"
no_memory false = codes "HTTP/1.1 503 Service Unavailable\r\nContent-Length: 34\r\nContent-Type: application/problem+json\r\n\r\n{\"cause\":\"NO_MEMORY\",\"status\":503}"

-- the response to a rest that is refused, which ends the connection; a read that fails and an end within a message get none
unfoldable pub refusal_text : WireRefusal → List ℕ
refusal_text BadHead = codes "HTTP/1.1 400 Bad Request\r\nConnection: close\r\nContent-Length: 43\r\nContent-Type: application/problem+json\r\n\r\n{\"cause\":\"INVALID_MSG_FORMAT\",\"status\":400}"
refusal_text (TooLong true) = codes "HTTP/1.1 431 Request Header Fields Too Large\r\nConnection: close\r\nContent-Length: 33\r\nContent-Type: application/problem+json\r\n\r\n{\"cause\":\"TOO_LONG\",\"status\":431}"
refusal_text (TooLong false) = codes "HTTP/1.1 413 Payload Too Large\r\nConnection: close\r\nContent-Length: 33\r\nContent-Type: application/problem+json\r\n\r\n{\"cause\":\"TOO_LONG\",\"status\":413}"
refusal_text Chunked = codes "HTTP/1.1 501 Not Implemented\r\nConnection: close\r\nContent-Length: 32\r\nContent-Type: application/problem+json\r\n\r\n{\"cause\":\"CHUNKED\",\"status\":501}"
refusal_text ReadFault = []
refusal_text (CutShort had) = []
refusal_text OutOfMemory = []
