mod Digits
mod FlagWords
mod Longs
mod NumberWords
mod Requests
mod Results
mod Walking
